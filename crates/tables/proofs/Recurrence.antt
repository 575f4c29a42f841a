-- Sobol's recurrence, as in specs/Directions.antt.
-- Its sum grows term by term within 32 bits, since m_k is below 2^k; it reads only the d numbers before m_i.
-- So the sequence `direction` obeys it, and a list that begins as that sequence does goes on with the recurrence.
-- Assumes nothing.
use Rattle.std.proofs.Common.{◌≡◌, ℕ, zero, suc, ◌+◌, ◌-◌, ◌*◌, ◌/◌, ◌%◌, ◌^◌, ◌<◌, ◌≤◌, ◌≢◌, List, length, get_or, set, sym, refl, ap, ◌∙◌, ap₂, mul_comm, mul-zero, zero-mul, mul-one, sub-add_cancel, arith, pow_mono, shl_lt, shl_exact, below_more}
use lib.Bits.{bit_and, bit_xor, and_mask, xor_lt, xor_zero_r}
use Rattle.std.proofs.lemmas.List.{get_or-set_same, get_or-set_other}
use Rattle.std.proofs.lemmas.Bool.Decides.{nat_tests}
use Rattle.tables.specs.Directions.{coefficient, terms, recurrence, Directions, following, newest, direction, Numbers}
use Rattle.tables.specs.Given.{GivenBy}
use Rattle.tables.specs.Record.{degree, polynomial, initial}
use Rattle.tables.specs.declared.record.Given.{Given}

-- ---- the sum

-- m_(i-k), shifted by k, is a number of i bits
shifted : (m i k : ℕ) → k ≤ i → i ≤ 32 → m < 2 ^ (i - k) → (m * 2 ^ k % 2 ^ 32 ≡ 2 ^ k * m) × (2 ^ k * m < 2 ^ i)
shifted m i k h l b =
    let e : i - k + k ≡ i = sub-add_cancel h in
    (shl_exact (i - k) k 32 b (omega arith) ∙ mul_comm m (2 ^ k), rw (e, mul_comm m (2 ^ k)) at (shl_lt (i - k) k b))

terms_step : (d p : ℕ) (back : ℕ → ℕ) (k : ℕ) → 1 ≤ k
    → terms d p back (k + 1 - 1) ≡ bit_xor (terms d p back (k - 1)) (2 ^ k * coefficient p (d - k) * back k)
terms_step d p back zero h = omega arith
terms_step d p back (suc k) h =
    let e : suc k + 1 - 1 ≡ suc k = omega arith in
    let f : k ≡ suc k - 1 = omega arith in
    ap (terms d p back) e ∙ ap (λ j. bit_xor (terms d p back j) (2 ^ suc k * coefficient p (d - suc k) * back (suc k))) f

-- s is the sum of the terms before the k-th, a number of i bits
abbrev pub SumBefore : ℕ → ℕ → (ℕ → ℕ) → ℕ → ℕ → ℕ → Type 0
SumBefore d p back i k s = (s ≡ terms d p back (k - 1)) × (s < 2 ^ i)

pub sum_with_term : (d p i k s r : ℕ) (back : ℕ → ℕ) → 1 ≤ k → k ≤ i → i ≤ 32 → back k < 2 ^ (i - k)
    → bit_and (p / 2 ^ (d - k)) 1 ≡ 1 → r ≡ bit_xor s (back k * 2 ^ k % 2 ^ 32) → SumBefore d p back i k s → SumBefore d p back i (k + 1) r
sum_with_term d p i k s r back h l w b t is (e, small) =
    let q = shifted (back k) i k l w b in
    let one : coefficient p (d - k) ≡ 1 = sym (and_mask (p / 2 ^ (d - k)) 1) ∙ t in
    let term : 2 ^ k * coefficient p (d - k) * back k ≡ 2 ^ k * back k = rw (one, mul-one) in
    (is ∙ ap₂ bit_xor e (q.0 ∙ sym term) ∙ sym (terms_step d p back k h), rw (is, q.0) (xor_lt i s (2 ^ k * back k) small q.1))

pub sum_without_term : (d p i k s r : ℕ) (back : ℕ → ℕ) → 1 ≤ k
    → (bit_and (p / 2 ^ (d - k)) 1 ≡ 1 → ⊥) → r ≡ s → SumBefore d p back i k s → SumBefore d p back i (k + 1) r
sum_without_term d p i k s r back h t is (e, small) =
    let none : coefficient p (d - k) ≡ 0 = omega (arith, and_mask (p / 2 ^ (d - k)) 1) in
    let term : 2 ^ k * coefficient p (d - k) * back k ≡ 0 = rw (none, mul-zero, zero-mul) in
    (is ∙ e ∙ sym (rw term at (terms_step d p back k h) ∙ xor_zero_r (terms d p back (k - 1))), rw is small)

-- the terms before the d-th, and the two of m_(i-d)
pub sum_is_recurrence : (d p i k s : ℕ) (back : ℕ → ℕ) → d ≤ i → i ≤ 32 → back d < 2 ^ (i - d) → k ≡ d → SumBefore d p back i k s
    → record {
      value : bit_xor s (bit_xor (back d * 2 ^ d % 2 ^ 32) (back d)) ≡ recurrence d p back;
      bound : bit_xor s (bit_xor (back d * 2 ^ d % 2 ^ 32) (back d)) < 2 ^ i;
    }
sum_is_recurrence d p i k s back h w b last (e, small) =
    let q = shifted (back d) i d h w b in
    let oldest : back d < 2 ^ i = omega (arith, pow_mono {i = i - d} {j = i} (omega arith)) in
    record {
      value = ap₂ (λ x y. bit_xor x (bit_xor y (back d))) (rw last at e) q.0;
      bound = rw q.0 (xor_lt i s (bit_xor (2 ^ d * back d) (back d)) small (xor_lt i (2 ^ d * back d) (back d) q.1 oldest));
    }

-- ---- the recurrence reads only the d numbers before

terms_same : (d p : ℕ) (a b : ℕ → ℕ) (n : ℕ) → ((k : ℕ) → 1 ≤ k → k ≤ n → a k ≡ b k) → terms d p a n ≡ terms d p b n
terms_same d p a b zero h = refl
terms_same d p a b (suc n) h =
    ap₂ bit_xor (terms_same d p a b n (λ k l u. h k l (omega arith)))
    (ap (λ m. 2 ^ suc n * coefficient p (d - suc n) * m) (h (suc n) (omega arith) (omega arith)))

recurrence_same : (d p : ℕ) (a b : ℕ → ℕ) → 1 ≤ d → ((k : ℕ) → 1 ≤ k → k ≤ d → a k ≡ b k) → recurrence d p a ≡ recurrence d p b
recurrence_same d p a b l h =
    ap₂ bit_xor (terms_same d p a b (d - 1) (λ k l u. h k l (omega arith)))
    (ap (λ m. bit_xor (2 ^ d * m) m) (h d l (omega arith)))

-- ---- the sequence

following_if_zero : (d p : ℕ) (first : ℕ → ℕ) (i : ℕ) (before : List ℕ) → d ≡ 0 → following d p first i before ≡ 1
following_if_zero d p first i before h = grind (arith, nat_tests)

following_if_given : (d p : ℕ) (first : ℕ → ℕ) (i : ℕ) (before : List ℕ) → 1 ≤ i → i ≤ d → following d p first i before ≡ first i
following_if_given d p first i before h l = grind (arith, nat_tests)

following_if_later : (d p : ℕ) (first : ℕ → ℕ) (i : ℕ) (before : List ℕ) → 1 ≤ d → d < i
    → following d p first i before ≡ recurrence d p (λ k. get_or before (k - 1) 0)
following_if_later d p first i before h l = grind (arith, nat_tests)

newest_at : (d p : ℕ) (first : ℕ → ℕ) (n k : ℕ) → k < n → get_or (newest d p first n) k 0 ≡ direction d p first (n - k)
newest_at d p first zero k h = omega arith
newest_at d p first (suc n) zero h = let e : suc n ≡ suc n - 0 = omega arith in ap (direction d p first) e
newest_at d p first (suc n) (suc k) h =
    let e : n - k ≡ suc n - suc k = omega arith in newest_at d p first n k (omega arith) ∙ ap (direction d p first) e

direction_is_following : (d p : ℕ) (first : ℕ → ℕ) (i : ℕ) → 1 ≤ i → direction d p first i ≡ following d p first i (newest d p first (i - 1))
direction_is_following d p first zero h = omega arith
direction_is_following d p first (suc n) h =
    let e : n ≡ suc n - 1 = omega arith in ap (λ j. following d p first (suc n) (newest d p first j)) e

-- a sequence that has the direction numbers before m_i goes on with m_i
pub next_direction : (d p : ℕ) (first : ℕ → ℕ) (m : ℕ → ℕ) (i : ℕ) → 1 ≤ d → d < i
    → ((k : ℕ) → 1 ≤ k → k < i → m k ≡ direction d p first k) → recurrence d p (λ k. m (i - k)) ≡ direction d p first i
next_direction d p first m i h l same =
    let before = newest d p first (i - 1) in
    let read : (k : ℕ) → 1 ≤ k → k ≤ d → m (i - k) ≡ get_or before (k - 1) 0 = λ k a b.
    let e : i - k ≡ i - 1 - (k - 1) = omega arith in
    same (i - k) (omega arith) (omega arith) ∙ ap (direction d p first) e ∙ sym (newest_at d p first (i - 1) (k - 1) (omega arith)) in
    recurrence_same d p (λ k. m (i - k)) (λ k. get_or before (k - 1) 0) h read
    ∙ sym (direction_is_following d p first i (omega arith) ∙ following_if_later d p first i before h l)

pub obeys_if_direction : (d p : ℕ) (first : ℕ → ℕ) (n : ℕ) (m : ℕ → ℕ)
    → ((i : ℕ) → 1 ≤ i → i ≤ n → m i ≡ direction d p first i) → Directions d p first n m
obeys_if_direction d p first n m same =
    record {
      ones = λ none i l u. same i l u ∙ direction_is_following d p first i l ∙ following_if_zero d p first i (newest d p first (i - 1)) none;
      starts = λ i l g u. same i l u ∙ direction_is_following d p first i l ∙ following_if_given d p first i (newest d p first (i - 1)) l g;
      follows = λ h i l u. same i (omega arith) u ∙ sym (next_direction d p first m i h l (λ k a b. same k a (omega arith)));
    }

pub direction_obeys : (d p : ℕ) (first : ℕ → ℕ) (n : ℕ) → Directions d p first n (direction d p first)
direction_obeys d p first n = obeys_if_direction d p first n (direction d p first) (λ i l u. refl)

-- ---- a list of the direction numbers, m_1 first

-- the numbers before m_i are the direction numbers, and m_k is below 2^k
abbrev pub HoldsBefore : ℕ → ℕ → (ℕ → ℕ) → ℕ → List ℕ → Type 0
HoldsBefore d p first i ms =
    (k : ℕ) → k < i → 1 ≤ k → (get_or ms (k - 1) 0 ≡ direction d p first k) × (get_or ms (k - 1) 0 < 2 ^ k)

pub holds_with_next : (d p : ℕ) (first : ℕ → ℕ) (i : ℕ) (ms : List ℕ) (x : ℕ) → 1 ≤ i → i ≤ length ms
    → x ≡ direction d p first i → x < 2 ^ i → HoldsBefore d p first i ms → HoldsBefore d p first (i + 1) (set ms (i - 1) x)
holds_with_next d p first i ms x l u is small before =
    below_more _ _
    (λ k b a. let other : k - 1 ≢ i - 1 = omega arith in rw get_or-set_other (before k b a))
    (λ a. let within : i - 1 < length ms = omega arith in rw get_or-set_same (is, small))

pub numbers_from_given : (bytes : List ℕ) (g : Given) (ms : List ℕ) → GivenBy bytes g
    → ((i : ℕ) → 1 ≤ i → i ≤ 32 → get_or ms (i - 1) 0 ≡ direction g.polynomial.degree g.polynomial.bits (λ k. get_or g.numbers (k - 1) 0) i)
    → Numbers bytes ms
numbers_from_given bytes g ms is are =
    let first : (λ k. get_or g.numbers (k - 1) 0) ≡ initial bytes = λ x k. is.numbers_are k x in
    let are' = rw (is.degree_is, is.polynomial_is, first) at are in
    record { are = are'; obey = obeys_if_direction (degree bytes) (polynomial bytes) (initial bytes) 32 (λ i. get_or ms (i - 1) 0) are' }
