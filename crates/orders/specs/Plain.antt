-- The plain order. Assumes nothing.
use Rattle.std.specs.Prelude.{ℕ}
use Rattle.base.specs.Orders.{OrderModel}

-- each index is its position
abbrev pub plain_order : ℕ → ℕ → OrderModel
plain_order q M = record { q = q; digits = M; index = λ n. n }
