-- The numbers modulo q keep the laws of a field, for every q above 1 but for inverses; those are found by a test over the
-- six primes.
-- Assumes nothing.
use Rattle.std.specs.Prelude.{◌≡◌, ℕ, ◌+◌, ◌-◌, ◌*◌, ◌%◌, ◌≤◌, Bool, true, None, ◌==◌, refl}
use Rattle.std.proofs.Common.{sym, ◌∙◌, ap, subst, ⊎_elim, add_assoc, add_comm, mod-eq_of_lt, mod-lt, mul-add, mul_assoc, mul_comm, one-mul, zero-add, arith}
use Rattle.std.proofs.Math.Nat.{add-mod, add-mod-mod, mod-add-mod, mod_self}
use Rattle.std.proofs.lemmas.Nat.{mul-mod_first, mul-mod_second}
use Rattle.std.proofs.lemmas.Bool.{eqb-true, or_cases}
use Rattle.fields.specs.OnDigits.{DigitLaws}
use Rattle.fields.specs.Tested.{all, all_at, inverse_from_test, invertible}
use Rattle.fields.specs.Prime.{inverse_modulo, is_prime_size}

-- every digit but 0 has an inverse, for each of the six primes
abbrev pub invertible_digits : ℕ → Bool
invertible_digits q = all q (invertible q (λ a b. a * b % q) (inverse_modulo q))

six : (P : ℕ → Type 0) → P 2 → P 3 → P 5 → P 7 → P 11 → P 13 → (q : ℕ) → is_prime_size q ≡ true → P q
six P p₂ p₃ p₅ p₇ p₁₁ p₁₃ q h =
    let at : (n : ℕ) → P n → (q == n) ≡ true → P q = λ n p e. subst P (sym (eqb-true q n e)) p in
    ⊎_elim (at 2 p₂) (λ h₃. ⊎_elim (at 3 p₃) (λ h₅. ⊎_elim (at 5 p₅) (λ h₇. ⊎_elim (at 7 p₇) (λ h₁₁. ⊎_elim (at 11 p₁₁) (at 13 p₁₃)
    (or_cases (q == 11) (q == 13) h₁₁)) (or_cases (q == 7) _ h₇)) (or_cases (q == 5) _ h₅)) (or_cases (q == 3) _ h₃)) (or_cases (q == 2) _ h)

pub six_invertible : (q : ℕ) → is_prime_size q ≡ true → invertible_digits q ≡ true
six_invertible = six (λ q. invertible_digits q ≡ true) refl refl refl refl refl refl

pub modular_laws : (q : ℕ) → 2 ≤ q → is_prime_size q ≡ true
    → DigitLaws q (λ a b. (a + b) % q) (λ a b. a * b % q) (λ a. (q - a) % q) (inverse_modulo q)
modular_laws q h prime =
    record {
      sum_digit = λ a b _ _. mod-lt (a + b) (omega arith);
      product_digit = λ a b _ _. mod-lt (a * b) (omega arith);
      negative_digit = λ a _. mod-lt (q - a) (omega arith);
      sum_assoc = λ a b c _ _ _. mod-add-mod (a + b) q c ∙ ap (λ x. x % q) (add_assoc a b c) ∙ sym (add-mod-mod a (b + c) q);
      sum_comm = λ a b _ _. ap (λ x. x % q) (add_comm a b);
      sum_zero = λ a l. ap (λ x. x % q) (zero-add a) ∙ mod-eq_of_lt l;
      sum_negative = λ a l. add-mod-mod a (q - a) q ∙ ap (λ x. x % q) (omega arith) ∙ mod_self q;
      product_assoc = λ a b c _ _ _. mul-mod_first (a * b) c q ∙ ap (λ x. x % q) (mul_assoc a b c) ∙ sym (mul-mod_second a (b * c) q);
      product_comm = λ a b _ _. ap (λ x. x % q) (mul_comm a b);
      product_one = λ a l. ap (λ x. x % q) (one-mul a) ∙ mod-eq_of_lt l;
      distributes = λ a b c _ _ _. mul-mod_second a (b + c) q ∙ ap (λ x. x % q) (mul-add a b c) ∙ add-mod (a * b) (a * c) q;
      inverse_is = λ a l ne.
          inverse_from_test q (λ x y. x * y % q) (inverse_modulo q) a
          (all_at q (invertible q (λ x y. x * y % q) (inverse_modulo q)) (six_invertible q prime) a l) ne;
      inverse_of_zero = six (λ n. inverse_modulo n 0 ≡ None) refl refl refl refl refl refl q prime;
    }
