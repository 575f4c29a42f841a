-- The laws of a field by computation: one test over all digits, and the lemma that turns it into the laws.
-- Assumes nothing.
use Rattle.std.specs.Prelude.{◌≡◌, ℕ, zero, suc, ◌<◌, Bool, true, false, ◌&&◌, ◌||◌, Some, None, Option, ◌==◌, ◌≢◌, nat_eq, nat_lt, refl}
use Rattle.std.proofs.Common.{sym, subst, ⊎_elim, arith}
use Rattle.std.proofs.lemmas.Bool.{and_parts, cases_eq, eqb-true, ltb-true, false≢true, or_cases}
use Rattle.fields.specs.OnDigits.{DigitLaws}

-- p passes at every number below n
abbrev pub all : ℕ → (ℕ → Bool) → Bool
all zero p = true
all (suc n) p = p n && all n p

pub all_at : (n : ℕ) (p : ℕ → Bool) → all n p ≡ true → (k : ℕ) → k < n → p k ≡ true
all_at zero p h k low = absurd (omega arith)
all_at (suc n) p h k low =
    let parts = and_parts (p n) (all n p) h in
    ⊎_elim (λ e. subst (λ i. p i ≡ true) (sym e) parts.0) (λ ne. all_at n p parts.1 k (omega arith)) (cases_eq k n)

-- an answer that is there, is a digit, and passes
abbrev pub found : ℕ → (ℕ → Bool) → Option ℕ → Bool
found q p None = false
found q p (Some b) = nat_lt b q && p b

pub found_is : (q : ℕ) (p : ℕ → Bool) (o : Option ℕ) → found q p o ≡ true → (b : ℕ) × (o ≡ Some b) × (b < q) × (p b ≡ true)
found_is q p None h = absurd (false≢true h)
found_is q p (Some b) h = let parts = and_parts (nat_lt b q) (p b) h in (b, refl, ltb-true b q parts.0, parts.1)

-- a digit has an inverse, unless it is 0
abbrev pub invertible : ℕ → (ℕ → ℕ → ℕ) → (ℕ → Option ℕ) → ℕ → Bool
invertible q product inverse a = a == 0 || found q (λ b. nat_eq (product a b) 1) (inverse a)

pub inverse_from_test : (q : ℕ) (product : ℕ → ℕ → ℕ) (inverse : ℕ → Option ℕ) (a : ℕ) → invertible q product inverse a ≡ true
    → (a ≢ 0) → (b : ℕ) × (inverse a ≡ Some b) × (b < q) × (product a b ≡ 1)
inverse_from_test q product inverse a h ne =
    ⊎_elim (λ zero'. absurd (ne (eqb-true a 0 zero')))
    (λ some. let i = found_is q (λ b. nat_eq (product a b) 1) (inverse a) some in (i.0, i.1, i.2, eqb-true (product a i.0) 1 i.3))
    (or_cases (a == 0) (found q (λ b. nat_eq (product a b) 1) (inverse a)) h)

module _ (q : ℕ) (sum product : ℕ → ℕ → ℕ) (negative : ℕ → ℕ) (inverse : ℕ → Option ℕ) where
  -- the laws of one digit
  abbrev pub test_one : ℕ → Bool
  test_one a =
      nat_lt (negative a) q
      && (sum 0 a == a && (sum a (negative a) == 0 && (product 1 a == a && invertible q product inverse a)))

  -- the laws of two digits
  abbrev pub test_two : ℕ → ℕ → Bool
  test_two a b =
      nat_lt (sum a b) q && (nat_lt (product a b) q && (sum a b == sum b a && product a b == product b a))

  -- the laws of three digits
  abbrev pub test_three : ℕ → ℕ → ℕ → Bool
  test_three a b c =
      (sum (sum a b) c == sum a (sum b c))
      && (product (product a b) c == product a (product b c) && product a (sum b c) == sum (product a b) (product a c))

  -- the functions pass at all digits below q
  abbrev pub lawful : Bool
  lawful = all q (λ a. test_one a && all q (λ b. test_two a b && all q (test_three a b)))

  module _ (passed : lawful ≡ true) where
    one : (a : ℕ) → a < q → (test_one a && all q (λ b. test_two a b && all q (test_three a b))) ≡ true
    one a h = all_at q (λ a. test_one a && all q (λ b. test_two a b && all q (test_three a b))) passed a h

    tested_one : (a : ℕ) → a < q → (negative a < q) × (sum 0 a ≡ a) × (sum a (negative a) ≡ 0) × (product 1 a ≡ a) × (invertible q product inverse a ≡ true)
    tested_one a h =
        let p = (and_parts _ _ (one a h)).0 in
        let p₁ = and_parts (nat_lt (negative a) q) _ p in
        let p₂ = and_parts (sum 0 a == a) _ p₁.1 in
        let p₃ = and_parts (sum a (negative a) == 0) _ p₂.1 in
        let p₄ = and_parts (product 1 a == a) _ p₃.1 in
        (ltb-true _ _ p₁.0, eqb-true _ _ p₂.0, eqb-true _ _ p₃.0, eqb-true _ _ p₄.0, p₄.1)

    two : (a b : ℕ) → a < q → b < q → (test_two a b && all q (test_three a b)) ≡ true
    two a b h k = all_at q (λ b. test_two a b && all q (test_three a b)) (and_parts (test_one a) _ (one a h)).1 b k

    tested_two : (a b : ℕ) → a < q → b < q → (sum a b < q) × (product a b < q) × (sum a b ≡ sum b a) × (product a b ≡ product b a)
    tested_two a b h k =
        let p = (and_parts (test_two a b) _ (two a b h k)).0 in
        let p₁ = and_parts (nat_lt (sum a b) q) _ p in
        let p₂ = and_parts (nat_lt (product a b) q) _ p₁.1 in
        let p₃ = and_parts (sum a b == sum b a) _ p₂.1 in
        (ltb-true _ _ p₁.0, ltb-true _ _ p₂.0, eqb-true _ _ p₃.0, eqb-true _ _ p₃.1)

    tested_three : (a b c : ℕ) → a < q → b < q → c < q
        → (sum (sum a b) c ≡ sum a (sum b c)) × (product (product a b) c ≡ product a (product b c)) × (product a (sum b c) ≡ sum (product a b) (product a c))
    tested_three a b c h k l =
        let p = all_at q (test_three a b) (and_parts (test_two a b) _ (two a b h k)).1 c l in
        let p₁ = and_parts (sum (sum a b) c == sum a (sum b c)) _ p in
        let p₂ = and_parts (product (product a b) c == product a (product b c)) _ p₁.1 in
        (eqb-true _ _ p₁.0, eqb-true _ _ p₂.0, eqb-true _ _ p₂.1)

    pub laws_from_test : inverse 0 ≡ None → DigitLaws q sum product negative inverse
    laws_from_test none =
        record {
          sum_digit = λ a b h k. (tested_two a b h k).0;
          product_digit = λ a b h k. (tested_two a b h k).1;
          negative_digit = λ a h. (tested_one a h).0;
          sum_assoc = λ a b c h k l. (tested_three a b c h k l).0;
          sum_comm = λ a b h k. (tested_two a b h k).2;
          sum_zero = λ a h. (tested_one a h).1;
          sum_negative = λ a h. (tested_one a h).2;
          product_assoc = λ a b c h k l. (tested_three a b c h k l).1;
          product_comm = λ a b h k. (tested_two a b h k).3;
          product_one = λ a h. (tested_one a h).3;
          distributes = λ a b c h k l. (tested_three a b c h k l).2;
          inverse_is = λ a h ne. inverse_from_test q product inverse a (tested_one a h).4 ne;
          inverse_of_zero = none;
        }
