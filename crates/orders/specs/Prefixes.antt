-- An index made digit by digit keeps the laws of an order, if each step gives a digit and different digits for different digits.
-- From the top digit down, two positions agree in the digits so far exactly if their indexes do.
-- Assumes nothing.
use Rattle.std.specs.Prelude.{◌≡◌, ℕ, zero, suc, ◌+◌, ◌-◌, ◌/◌, ◌%◌, ◌^◌, ◌<◌, ◌↔◌}
use Rattle.std.proofs.Common.{sym, ◌∙◌, ap, ap₂, mod-lt, arith}
use Rattle.std.proofs.Math.Nat.{div-eq_of_lt}
use Rattle.std.proofs.lemmas.Bool.{cond-true, cond-false, lt-ltb, le-ltb}
use Rattle.base.specs.Orders.{digit, from_digits, OrderLaws}
use Rattle.base.specs.Tables.{BaseLimits, DigitLimits}
use Rattle.orders.specs.Digitwise.{by_digits}
use Rattle.orders.specs.Numerals.{from_digits_below, digit_from_digits, same_quotients_above, same_if_parts_same}

-- the digits of the index of n
abbrev pub index_digit : ℕ → (ℕ → ℕ → ℕ → ℕ) → ℕ → ℕ → ℕ
index_digit q step n l = step l (n / q ^ suc l) (digit q n l)

index_inside : (q M : ℕ) (step : ℕ → ℕ → ℕ → ℕ) (n : ℕ) → n < q ^ M → by_digits q M step n ≡ from_digits q M (index_digit q step n)
index_inside q M step n h = cond-true _ _ _ (lt-ltb n (q ^ M) h)

module _ (q M : ℕ) (step : ℕ → ℕ → ℕ → ℕ) (base : BaseLimits q) (width : DigitLimits q M)
    (small : (l h d : ℕ) → l < M → d < q → step l h d < q)
    (one_to_one : (l h d e : ℕ) → l < M → d < q → e < q → step l h d ≡ step l h e → d ≡ e) where
  abbrev index : ℕ → ℕ
  index = by_digits q M step

  digit_small : (n l : ℕ) → digit q n l < q
  digit_small n l = mod-lt (n / q ^ l) (omega arith)

  index_digit_small : (n l : ℕ) → l < M → index_digit q step n l < q
  index_digit_small n l low = small l (n / q ^ suc l) (digit q n l) low (digit_small n l)

  index_below : (n : ℕ) → n < q ^ M → index n < q ^ M
  index_below n h = rw (index_inside q M step n h) (from_digits_below q M (index_digit q step n) (index_digit_small n))

  digit_of_index : (n l : ℕ) → n < q ^ M → l < M → digit q (index n) l ≡ index_digit q step n l
  digit_of_index n l h low =
      rw (index_inside q M step n h) (digit_from_digits q M (index_digit q step n) (index_digit_small n) l low)

  -- two positions agree in all but their lowest m digits exactly if their indexes do; k digits stand above those
  same_prefix : (a b : ℕ) → a < q ^ M → b < q ^ M → (k m : ℕ) → m + k ≡ M
      → (a / q ^ m ≡ b / q ^ m) ↔ (index a / q ^ m ≡ index b / q ^ m)
  same_prefix a b in_a in_b zero m e =
      let top : m ≡ M = omega arith in
      rw top (
        λ _. div-eq_of_lt (index_below a in_a) ∙ sym (div-eq_of_lt (index_below b in_b)),
        λ _. div-eq_of_lt in_a ∙ sym (div-eq_of_lt in_b),
      )
  same_prefix a b in_a in_b (suc k) m e =
      let low : m < M = omega arith in
      let above = same_prefix a b in_a in_b k (suc m) (omega arith) in
      let digit_a = digit_of_index a m in_a low in
      let digit_b = digit_of_index b m in_b low in (
        λ same.
            let quotients = same_quotients_above q a b m same in
            let digits = ap (λ x. x % q) same in
            same_if_parts_same q (index a) (index b) m (above.0 quotients) (digit_a ∙ ap₂ (step m) quotients digits ∙ sym digit_b),
        λ same.
            let quotients = above.1 (same_quotients_above q (index a) (index b) m same) in
            let steps = sym digit_a ∙ ap (λ x. x % q) same ∙ digit_b in
            let digits =
            one_to_one m (b / q ^ suc m) (digit q a m) (digit q b m) low (digit_small a m) (digit_small b m) (rw quotients at steps) in
            same_if_parts_same q a b m quotients digits,
      )

  pub digitwise_keeps_laws : OrderLaws (record { q = q; digits = M; index = by_digits q M step })
  digitwise_keeps_laws =
      record {
        base = base;
        width = width;
        below = index_below;
        prefix = λ m a b h in_a in_b. (same_prefix a b in_a in_b (M - m) m (omega arith)).0;
        prefix_back = λ m a b h in_a in_b. (same_prefix a b in_a in_b (M - m) m (omega arith)).1;
        outside = λ n h. cond-false _ _ _ (le-ltb n (q ^ M) h);
      }
