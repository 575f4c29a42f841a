-- An index while it is built, from its lowest digit up: what holds before the first digit and after each,
-- and that every number on the way fits 64 bits.
-- Assumes nothing.
use Rattle.std.proofs.Common.{◌≡◌, ℕ, suc, ◌+◌, ◌*◌, ◌/◌, ◌%◌, ◌^◌, ◌<◌, ◌≤◌, sym, ap, ◌∙◌, ap₂, pow-suc, add-one, arith}
use native.Mathlib.Nat.{pow-le-pow_right}
use Rattle.std.proofs.lemmas.Nat.{mul-add-lt, mul-le}
use Rattle.base.specs.Orders.{from_digits}
use Rattle.base.specs.Tables.{BaseLimits, DigitLimits}
use Rattle.orders.specs.Numerals.{from_digits_more, quotient_above}
use Rattle.orders.specs.Prefixes.{index_digit}

-- at the place l the weight is q^l, the rest of the position n is its quotient by q^l, and the index is below the weight
pub record Built (q n l weight rest index : ℕ) : Type 0 where
  pub weight_is : weight ≡ q ^ l
  pub rest_is : rest ≡ n / q ^ l
  pub index_small : index < weight

module _ {q n l weight rest index : ℕ} (built : Built q n l weight rest index) where
  rest_lower : rest / q ≡ n / q ^ suc l
  rest_lower = ap (λ x. x / q) built.rest_is ∙ sym (quotient_above q n l)

  pub index_with_digit_small : (d : ℕ) → d < q → index + d * weight < weight * q
  index_with_digit_small d small = omega (arith, mul-add-lt d weight index q small built.index_small)

  pub built_more : (d : ℕ) → d < q → Built q n (l + 1) (weight * q) (rest / q) (index + d * weight)
  built_more d small =
      let next : Built q n (suc l) (weight * q) (rest / q) (index + d * weight) =
      record {
        weight_is = ap (λ x. x * q) built.weight_is ∙ sym (pow-suc q l);
        rest_is = rest_lower;
        index_small = index_with_digit_small d small;
      } in
      rw add-one next

  -- the digit of a step takes the index on to the next place
  pub index_more : (step : ℕ → ℕ → ℕ → ℕ) (d : ℕ) → index ≡ from_digits q l (index_digit q step n)
      → d ≡ step l (rest / q) (rest % q) → index + d * weight ≡ from_digits q (l + 1) (index_digit q step n)
  index_more step d index_is is =
      let here : d ≡ index_digit q step n l = is ∙ ap₂ (step l) rest_lower (ap (λ x. x % q) built.rest_is) in
      let next : index + d * weight ≡ from_digits q (suc l) (index_digit q step n) =
      ap₂ ◌+◌ index_is (ap₂ ◌*◌ here built.weight_is) ∙ sym (from_digits_more q l (index_digit q step n)) in
      rw add-one next

  pub next_weight_small : (M : ℕ) → BaseLimits q → DigitLimits q M → l < M → weight * q ≤ 2 ^ 36
  next_weight_small M base width low =
      let some : 0 < q = omega arith in
      let weight_small : weight ≤ 2 ^ 32 = omega (arith, built.weight_is, pow-le-pow_right some {i = l} {j = M} (omega arith)) in
      mul-le weight q (2 ^ 32) 16 weight_small base.1
