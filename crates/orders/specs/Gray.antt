-- The Gray order. Assumes nothing.
use Rattle.std.specs.Prelude.{ℕ, ◌+◌, ◌-◌, ◌%◌}
use Rattle.base.specs.Orders.{OrderModel}
use Rattle.orders.specs.Digitwise.{by_digits}

-- (d_l - d_(l+1)) mod q, arithmetic on numbers: the digit above is the lowest of the quotient by q^(l+1)
abbrev pub gray_step : ℕ → ℕ → ℕ → ℕ → ℕ
gray_step q l above d = (d + (q - above % q)) % q

-- the order of these digits
abbrev pub gray_order : ℕ → ℕ → OrderModel
gray_order q M = record { q = q; digits = M; index = by_digits q M (gray_step q) }
