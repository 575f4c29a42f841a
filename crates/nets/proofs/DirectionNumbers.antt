-- Direction numbers: where the given ones are odd and below 2^i, so are all that follow. In the recurrence every term is even but
-- for m_(i-d), which is odd, and every term is below 2^i. Assumes nothing.
use Rattle.std.proofs.Common.{◌≡◌, ℕ, zero, suc, ◌+◌, ◌-◌, ◌*◌, ◌%◌, ◌^◌, ◌<◌, ◌≤◌, sym, refl, ap, ◌∙◌, subst, ⊎_elim, mul_assoc, mul_comm, sub-add_cancel, arith, pow_pos, pow_mono, shl_lt}
use lib.Bits.{bit_xor, shifted_even, xor_lt, xor_mod}
use Rattle.std.proofs.lemmas.Bool.{cases_eq, cases_lt}
use Rattle.tables.proofs.Recurrence.{direction_obeys}
use Rattle.tables.specs.Directions.{Admissible, coefficient, direction, recurrence, terms}

-- ---- odd

-- an exclusive or with an even number keeps the lowest bit
xor_even : (a b : ℕ) → a % 2 ≡ 0 → bit_xor a b % 2 ≡ b % 2
xor_even a b even = xor_mod a b 1 ∙ ap (λ x. bit_xor x (b % 2)) even

term_regrouped : (a b c : ℕ) → a * b * c ≡ b * c * a
term_regrouped a b c = omega arith

terms_even : (d p : ℕ) (back : ℕ → ℕ) (n : ℕ) → terms d p back n % 2 ≡ 0
terms_even d p back zero = refl
terms_even d p back (suc n) =
    let a = coefficient p (d - suc n) in
    xor_even (terms d p back n) (2 ^ suc n * a * back (suc n)) (terms_even d p back n)
    ∙ ap (λ x. x % 2) (term_regrouped (2 ^ suc n) a (back (suc n))) ∙ shifted_even (a * back (suc n)) n

recurrence_odd : (d p : ℕ) (back : ℕ → ℕ) → 1 ≤ d → back d % 2 ≡ 1 → recurrence d p back % 2 ≡ 1
recurrence_odd zero p back some odd = omega (arith, some)
recurrence_odd (suc d) p back some odd =
    let m = back (suc d) in
    xor_even (terms (suc d) p back (suc d - 1)) (bit_xor (2 ^ suc d * m) m) (terms_even (suc d) p back (suc d - 1))
    ∙ xor_even (2 ^ suc d * m) m (ap (λ x. x % 2) (mul_comm (2 ^ suc d) m) ∙ shifted_even m d) ∙ odd

-- ---- below 2^i

-- m_(i-k), shifted by k, is below 2^i
shifted_below : (m i k : ℕ) → k ≤ i → m < 2 ^ (i - k) → 2 ^ k * m < 2 ^ i
shifted_below m i k h small =
    let e : i - k + k ≡ i = sub-add_cancel h in
    rw (e, mul_comm m (2 ^ k)) at (shl_lt (i - k) k small)

bit_times_below : (a m b : ℕ) → a < 2 → m < b → a * m < b
bit_times_below zero m b bit small = omega (arith, small)
bit_times_below (suc zero) m b bit small = omega (arith, small)
bit_times_below (suc (suc a)) m b bit small = omega (arith, bit)

terms_below : (d p i : ℕ) (back : ℕ → ℕ) (n : ℕ) → n ≤ i → ((k : ℕ) → 1 ≤ k → k ≤ n → back k < 2 ^ (i - k)) → terms d p back n < 2 ^ i
terms_below d p i back zero h small = pow_pos i
terms_below d p i back (suc n) h small =
    let a = coefficient p (d - suc n) in
    let m = back (suc n) in
    let below : a * m < 2 ^ (i - suc n) = bit_times_below a m (2 ^ (i - suc n)) (omega arith) (small (suc n) (omega arith) (omega arith)) in
    xor_lt i (terms d p back n) (2 ^ suc n * a * m) (terms_below d p i back n (omega (arith, h)) (λ k l u. small k l (omega (arith, u))))
    (rw (mul_assoc (2 ^ suc n) a m) (shifted_below (a * m) i (suc n) h below))

recurrence_below : (d p i : ℕ) (back : ℕ → ℕ) → 1 ≤ d → d ≤ i → ((k : ℕ) → 1 ≤ k → k ≤ d → back k < 2 ^ (i - k)) → recurrence d p back < 2 ^ i
recurrence_below d p i back some h small =
    let last : back d < 2 ^ (i - d) = small d some (omega arith) in
    let oldest : back d < 2 ^ i = omega (arith, last, pow_mono {i = i - d} {j = i} (omega arith)) in
    xor_lt i (terms d p back (d - 1)) (bit_xor (2 ^ d * back d) (back d))
    (terms_below d p i back (d - 1) (omega (arith, h)) (λ k l u. small k l (omega (arith, u))))
    (xor_lt i (2 ^ d * back d) (back d) (shifted_below (back d) i d h last) oldest)

-- ---- all of them

-- a number is odd and below 2^i
abbrev pub OddBelow : ℕ → ℕ → Type 0
OddBelow i m = (m % 2 ≡ 1) × (m < 2 ^ i)

module _ (d p : ℕ) (first : ℕ → ℕ) (given : Admissible d first) where
  next_admissible : (n : ℕ) → Admissible n (direction d p first) → OddBelow (suc n) (direction d p first (suc n))
  next_admissible n before =
      let obeys = direction_obeys d p first (suc n) in
      let back : ℕ → ℕ = λ k. direction d p first (suc n - k) in
      ⊎_elim
      (λ none. subst (OddBelow (suc n)) (sym (obeys.ones none (suc n) (omega arith) (omega arith))) (refl, omega (arith, pow_pos n)))
      (λ some.
      ⊎_elim
      (λ later.
      let from : 1 ≤ d = omega (arith, some) in
      subst (OddBelow (suc n)) (sym (obeys.follows from (suc n) later (omega arith))) (
        recurrence_odd d p back from (before (suc n - d) (omega (arith, later)) (omega (arith, from))).0,
        recurrence_below d p (suc n) back from (omega (arith, later))
            (λ k l u. (before (suc n - k) (omega (arith, u, later)) (omega (arith, l))).1),
      ))
      (λ early.
      subst (OddBelow (suc n)) (sym (obeys.starts (suc n) (omega arith) early (omega arith))) (given (suc n) (omega arith) early))
      (cases_lt d (suc n)))
      (cases_eq d 0)

  -- all direction numbers are odd, and m_i is below 2^i
  pub directions_admissible : (n : ℕ) → Admissible n (direction d p first)
  directions_admissible zero i low high = omega (arith, low, high)
  directions_admissible (suc n) i low high =
      let before = directions_admissible n in
      ⊎_elim (λ e. subst (λ k. OddBelow k (direction d p first k)) (sym e) (next_admissible n before))
      (λ ne. before i low (omega (arith, high, ne))) (cases_eq i (suc n))
