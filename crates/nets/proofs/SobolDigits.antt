-- The digits of a Sobol' table, from direction numbers that are odd, with m_i below 2^i: they are 1 on the diagonal and 0 below it,
-- and each column follows from those before it, as the bits of an exclusive or are the sums of the bits. Assumes nothing.
use Rattle.std.proofs.Common.{◌≡◌, ℕ, zero, suc, ◌+◌, ◌-◌, ◌*◌, ◌%◌, ◌^◌, ◌<◌, ◌≤◌, ltb, leb, sym, ap, ◌∙◌, subst, ap₂, ⊎_elim, mul_assoc, mul_comm, one-mul, zero-mul, mul-one, div-one, arith, pow_mono}
use native.Mathlib.Nat.{div-eq_of_lt, one-le-pow, sub_self, zero-div, zero-mod}
use lib.Bits.{bit_xor, xor_assoc}
use Rattle.std.proofs.lemmas.Bool.{cases_eq, cases_lt, cond-false, cond-true, le-leb, le-ltb, lt-leb, lt-ltb}
use Rattle.base.proofs.FieldAlgebra.{product_zero_right, sum_over_same, zero_digit}
use Rattle.base.specs.Fields.{FieldLaws, FieldModel, sum_over}
use Rattle.base.specs.Orders.{digit}
use Rattle.tables.proofs.Recurrence.{direction_obeys}
use Rattle.tables.specs.Directions.{Admissible, coefficient, direction, recurrence, terms}
use Rattle.tables.specs.Sobol.{sobol_digit}
use Rattle.nets.specs.Zero.{FollowsPolynomial, digit_above}
use Rattle.nets.proofs.DirectionNumbers.{OddBelow, directions_admissible}
use Rattle.nets.proofs.FieldSums.{sum_over_none}
use Rattle.nets.proofs.Numbers.{digit_above_lem, digit_under}
use Rattle.nets.proofs.TwoElements.{bit_below, bit_digit, bit_of_xor, product_of_bits}

-- ---- the digits of shifted and of small numbers

digit_of_zero : (q i : ℕ) → digit q 0 i ≡ 0
digit_of_zero q i = ap (λ x. x % q) (zero-div (q ^ i)) ∙ zero-mod q

digit_of_small : (q n i : ℕ) → n < q ^ i → digit q n i ≡ 0
digit_of_small q n i small = ap (λ x. x % q) (div-eq_of_lt small) ∙ zero-mod q

digit_of_shifted : (q n s i : ℕ) → 1 ≤ q → s ≤ i → digit q (q ^ s * n) i ≡ digit q n (i - s)
digit_of_shifted q n s i some h =
    ap₂ (digit q) (omega arith) (omega (arith, h)) ∙ digit_above_lem q s n 0 (i - s) (one-le-pow s q some)

digit_under_shifted : (q n s i : ℕ) → 1 ≤ q → i < s → digit q (q ^ s * n) i ≡ 0
digit_under_shifted q n s i some h = ap (λ x. digit q x i) (omega arith) ∙ digit_under q s n 0 i some h ∙ digit_of_zero q i

-- 0 or 1 times a number
digit_of_bit_times : (q a n i : ℕ) → a < 2 → digit q (a * n) i ≡ a * digit q n i
digit_of_bit_times q zero n i h = ap (λ x. digit q x i) (zero-mul n) ∙ digit_of_zero q i ∙ sym (zero-mul (digit q n i))
digit_of_bit_times q (suc zero) n i h = ap (λ x. digit q x i) (one-mul n) ∙ sym (one-mul (digit q n i))
digit_of_bit_times q (suc (suc a)) n i h = omega (arith, h)

-- ---- the digits of the table

module _ (m : ℕ → ℕ) where
  digit_within : (k l : ℕ) → k ≤ l + 1 → sobol_digit m k l ≡ digit 2 (m (l + 1)) (l + 1 - k)
  digit_within k l h = cond-true (leb k (l + 1)) (digit 2 (m (l + 1)) (l + 1 - k)) 0 (le-leb k (l + 1) h)

  digit_beyond : (k l : ℕ) → l + 1 < k → sobol_digit m k l ≡ 0
  digit_beyond k l h = cond-false (leb k (l + 1)) (digit 2 (m (l + 1)) (l + 1 - k)) 0 (lt-leb k (l + 1) h)

  pub sobol_digit_below : (k l : ℕ) → sobol_digit m k l < 2
  sobol_digit_below k l =
      ⊎_elim (λ late. subst (λ x. x < 2) (sym (digit_beyond k l late)) (omega arith))
      (λ early. subst (λ x. x < 2) (sym (digit_within k l early)) (bit_below (m (l + 1)) (l + 1 - k))) (cases_lt (l + 1) k)

  -- the bit of a shifted number is the digit in an earlier column
  shifted_is_earlier : (k l s : ℕ) → k ≤ l + 1 → s ≤ l → digit 2 (2 ^ s * m (l + 1 - s)) (l + 1 - k) ≡ sobol_digit m k (l - s)
  shifted_is_earlier k l s h early =
      let column : l + 1 - s ≡ l - s + 1 = omega (arith, early) in
      ⊎_elim
      (λ beyond. digit_under_shifted 2 (m (l + 1 - s)) s (l + 1 - k) (omega arith) (omega (arith, beyond, h)) ∙ sym (digit_beyond k (l - s) beyond))
      (λ within.
      digit_of_shifted 2 (m (l + 1 - s)) s (l + 1 - k) (omega arith) (omega (arith, within, h, early))
      ∙ ap₂ (λ i j. digit 2 (m i) j) column (omega (arith, within, h, early)) ∙ sym (digit_within k (l - s) within))
      (cases_lt (l - s + 1) k)

  -- the bit of the oldest number, not shifted, is the digit d rows up
  oldest_is_above : (d k l : ℕ) → d ≤ l → k ≤ l + 1 → m (l + 1 - d) < 2 ^ (l + 1 - d)
      → digit 2 (m (l + 1 - d)) (l + 1 - k) ≡ digit_above (sobol_digit m) d k (l - d)
  oldest_is_above d k l early h small =
      let column : l + 1 - d ≡ l - d + 1 = omega (arith, early) in
      ⊎_elim
      (λ further.
      ap₂ (λ i j. digit 2 (m i) j) column (omega (arith, early, further, h)) ∙ sym (digit_within (k - d) (l - d) (omega (arith, early, further, h)))
      ∙ sym (cond-true (ltb d k) (sobol_digit m (k - d) (l - d)) 0 (lt-ltb d k further)))
      (λ near.
      digit_of_small 2 (m (l + 1 - d)) (l + 1 - k) (omega (arith, small, pow_mono {i = l + 1 - d} {j = l + 1 - k} (omega (arith, near))))
      ∙ sym (cond-false (ltb d k) (sobol_digit m (k - d) (l - d)) 0 (le-ltb d k near)))
      (cases_lt d k)

-- with the coefficient of x^0, which is 1, the recurrence has all d terms and m_(i-d)
recurrence_in_full : (d p : ℕ) (back : ℕ → ℕ) → 1 ≤ d → p % 2 ≡ 1 → recurrence d p back ≡ bit_xor (terms d p back d) (back d)
recurrence_in_full zero p back some odd = omega (arith, some)
recurrence_in_full (suc e) p back some odd =
    let m = back (suc e) in
    let lowest : coefficient p (suc e - suc e) ≡ 1 = ap (coefficient p) (sub_self (suc e)) ∙ ap (λ x. x % 2) (div-one p) ∙ odd in
    let last : 2 ^ suc e * coefficient p (suc e - suc e) * m ≡ 2 ^ suc e * m =
    ap (λ a. 2 ^ suc e * a * m) lowest ∙ ap (λ x. x * m) (mul-one (2 ^ suc e)) in
    let before : suc e - 1 ≡ e = omega arith in
    ap (λ j. bit_xor (terms (suc e) p back j) (bit_xor (2 ^ suc e * m) m)) before
    ∙ sym (xor_assoc (terms (suc e) p back e) (2 ^ suc e * m) m) ∙ ap (λ x. bit_xor (bit_xor (terms (suc e) p back e) x) m) (sym last)

-- the digit in row k and column l follows from a polynomial
abbrev Follows : FieldModel → ℕ → ℕ → (ℕ → ℕ → ℕ) → ℕ → ℕ → Type 0
Follows F d p rows k l =
    rows k l ≡ F.sum (sum_over F d (λ r. F.product (coefficient p (d - suc r)) (rows k (l - suc r)))) (digit_above rows d k (l - d))

module _ (F : FieldModel) (laws : FieldLaws F) (two : F.q ≡ 2) where
  -- the bits of the terms of the recurrence
  bit_of_terms : (d p : ℕ) (back : ℕ → ℕ) (n i : ℕ)
      → digit 2 (terms d p back n) i ≡ sum_over F n (λ r. F.product (coefficient p (d - suc r)) (digit 2 (2 ^ suc r * back (suc r)) i))
  bit_of_terms d p back zero i = digit_of_zero 2 i
  bit_of_terms d p back (suc n) i =
      let a = coefficient p (d - suc n) in
      let b = back (suc n) in
      let bit = bit_below p (d - suc n) in
      let c = 2 ^ suc n * b in
      bit_of_xor F laws two (terms d p back n) (2 ^ suc n * a * b) i
      ∙ ap₂ F.sum (bit_of_terms d p back n i)
      (ap (λ x. digit 2 x i) (ap (λ x. x * b) (mul_comm (2 ^ suc n) a) ∙ mul_assoc a (2 ^ suc n) b)
      ∙ digit_of_bit_times 2 a c i bit ∙ sym (product_of_bits F laws two a (digit 2 c i) bit (bit_below c i)))

  coefficient_digit : (p i : ℕ) → coefficient p i < F.q
  coefficient_digit p i = bit_digit F laws two p i

  -- past the diagonal all digits are 0
  follows_beyond : (m : ℕ → ℕ) (d p k l : ℕ) → d ≤ l → l + 1 < k → Follows F d p (sobol_digit m) k l
  follows_beyond m d p k l early beyond =
      digit_beyond m k l beyond ∙ sym (laws.sum_zero 0 (zero_digit F laws))
      ∙ sym (ap₂ F.sum
      (sum_over_same F d (λ r. F.product (coefficient p (d - suc r)) (sobol_digit m k (l - suc r))) (λ r. 0)
      (λ r h. ap (F.product (coefficient p (d - suc r))) (digit_beyond m k (l - suc r) (omega (arith, beyond)))
      ∙ product_zero_right F laws (coefficient p (d - suc r)) (coefficient_digit p (d - suc r)))
      ∙ sum_over_none F laws d)
      (cond-true (ltb d k) (sobol_digit m (k - d) (l - d)) 0 (lt-ltb d k (omega (arith, early, beyond)))
      ∙ digit_beyond m (k - d) (l - d) (omega (arith, early, beyond))))

  -- a polynomial of degree 0 takes each digit from itself
  follows_constant : (m : ℕ → ℕ) (p k l : ℕ) → 1 ≤ k → Follows F 0 p (sobol_digit m) k l
  follows_constant m p k l low =
      sym (laws.sum_zero (sobol_digit m k l) (omega (arith, sobol_digit_below m k l, two)))
      ∙ ap (F.sum 0) (ap₂ (sobol_digit m) (omega arith) (omega arith) ∙ sym (cond-true (ltb 0 k) (sobol_digit m (k - 0) (l - 0)) 0 (lt-ltb 0 k low)))

  -- up to the diagonal the digits follow by the recurrence
  follows_within : (m : ℕ → ℕ) (d p k l : ℕ) → d ≤ l → k ≤ l + 1 → m (l + 1 - d) < 2 ^ (l + 1 - d)
      → 1 ≤ d → p % 2 ≡ 1 → m (l + 1) ≡ recurrence d p (λ r. m (l + 1 - r)) → Follows F d p (sobol_digit m) k l
  follows_within m d p k l early h small some odd recurs =
      let back : ℕ → ℕ = λ r. m (l + 1 - r) in
      let i = l + 1 - k in
      digit_within m k l h ∙ ap (λ x. digit 2 x i) (recurs ∙ recurrence_in_full d p back some odd)
      ∙ bit_of_xor F laws two (terms d p back d) (back d) i
      ∙ ap₂ F.sum
      (bit_of_terms d p back d i
      ∙ sum_over_same F d (λ r. F.product (coefficient p (d - suc r)) (digit 2 (2 ^ suc r * back (suc r)) i))
      (λ r. F.product (coefficient p (d - suc r)) (sobol_digit m k (l - suc r)))
      (λ r u. ap (F.product (coefficient p (d - suc r))) (shifted_is_earlier m k l (suc r) h (omega (arith, u, early)))))
      (oldest_is_above m d k l early h small)

  -- the digits of a polynomial's direction numbers follow from it
  pub sobol_digits_follow : (d p : ℕ) (first : ℕ → ℕ) → Admissible d first → p % 2 ≡ 1 → (M : ℕ)
      → FollowsPolynomial F d p M (sobol_digit (direction d p first))
  sobol_digits_follow d p first given odd M =
      record {
        diagonal = λ l h.
            let lowest : l + 1 - suc l ≡ 0 = omega arith in
            digit_within m (suc l) l (omega arith) ∙ ap (digit 2 (m (l + 1))) lowest ∙ ap (λ x. x % 2) (div-one (m (l + 1)))
            ∙ (admissible (l + 1) (omega arith)).0;
        below = λ k l h u. digit_beyond m k l (omega (arith, h));
        follows = λ k l low u early h.
            ⊎_elim (λ beyond. follows_beyond m d p k l early beyond)
            (λ within. ⊎_elim
            (λ none. subst (λ e. Follows F e p (sobol_digit m) k l) (sym none) (follows_constant m p k l low))
            (λ some.
            let from : 1 ≤ d = omega (arith, some) in
            follows_within m d p k l early within (admissible (l + 1 - d) (omega (arith, early))).1 from odd
            ((direction_obeys d p first (l + 1)).follows from (l + 1) (omega (arith, early)) (omega arith)))
            (cases_eq d 0))
            (cases_lt (l + 1) k);
      }
    where
      m : ℕ → ℕ
      m = direction d p first

      admissible : (i : ℕ) → 1 ≤ i → OddBelow i (m i)
      admissible i low = directions_admissible d p first given i i low (omega arith)
