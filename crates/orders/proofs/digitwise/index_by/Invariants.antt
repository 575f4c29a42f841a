use Rattle.std.proofs.Common.{◌≡◌, ℕ}
use Rattle.base.specs.Orders.{from_digits}
use Rattle.orders.specs.Digitwise.{GivesSteps}
use Rattle.orders.specs.Prefixes.{index_digit}
use Rattle.orders.proofs.Building.{Built}
use Rattle.orders.proofs.digitwise.index_by.Given as goal

-- the rest of the position is the quotient by the weight, and the index has its digits below the place, by any steps
-- that the rule takes
abbrev pub invariant-loop-place : goal.invariant-loop-place
invariant-loop-place g l =
    record {
      built : Built l.q l.position l.place l.weight l.rest l.index;
      index_is : (step : ℕ → ℕ → ℕ → ℕ) → GivesSteps l.size.q (goal.F-post g l.rule) step
          → l.index ≡ from_digits l.q l.place (index_digit l.q step l.position);
    }
