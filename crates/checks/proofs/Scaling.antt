-- A setting stays between the limits of its travel, and grows with its numerator. Assumes nothing.
use Rattle.std.proofs.Common.{◌≡◌, ℕ, zero, suc, ◌*◌, ◌/◌, ◌^◌, ◌<◌, ◌≤◌, ap₂, ◌∙◌, subst, le_trans, mul-le-mul_right, mul_comm, mul-lt-mul_of_pos_right, le-div_iff_mul-le, div-mul-le_self, arith}
use native.Mathlib.Nat.{div-zero}
use Rattle.std.proofs.lemmas.Nat.{div_below}
use Rattle.base.specs.Shapes.{HasShape}
use Rattle.base.specs.declared.limits.Shape.{Shape}
use Rattle.checks.specs.Settings.{Grows}

-- a numerator below the number of positions gives fewer steps than the travel has counts
pub steps_below_span : (Q span X : ℕ) → X < Q → 1 ≤ span → X * span / Q < span
steps_below_span Q span X below some =
    div_below (X * span) Q span (omega arith)
    (subst (λ n. X * span < n) (mul_comm Q span) (mul-lt-mul_of_pos_right below (omega arith)))

quotients_grow : (Q a b : ℕ) → a ≤ b → a / Q ≤ b / Q
quotients_grow zero a b h = rw (div-zero a) (omega arith)
quotients_grow (suc Q) a b h = (le-div_iff_mul-le (omega arith)).1 (le_trans (div-mul-le_self a (suc Q)) h)

pub settings_grow : Grows
settings_grow Q low span X Y h = omega (arith, quotients_grow Q (X * span) (Y * span) (mul-le-mul_right span h))

-- the positions of a shape, by the numbers that it was made from
pub positions_of : {q M s : ℕ} (x : Shape) → HasShape q M s x → x.positions ≡ q ^ M
positions_of x has = x.count ∙ ap₂ (λ a b. a ^ b) has.q_is has.digits_are
