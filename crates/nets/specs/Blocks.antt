-- Blocks of positions and of indexes. Assumes nothing.
use Rattle.std.specs.Prelude.{◌≡◌, ℕ, ◌+◌, ◌*◌, ◌/◌, ◌^◌, ◌<◌, ◌≤◌}
use Rattle.base.specs.Orders.{OrderLaws, OrderModel}

-- while a position runs over its block b of q^m, its index runs over block c of q^m: it stays there, and comes to each
-- place of it exactly once
pub record RunsOver (O : OrderModel) (m b c : ℕ) : Type 0 where
  pub inside : (r : ℕ) → r < O.q ^ m → O.index (b * O.q ^ m + r) / O.q ^ m ≡ c
  pub reached : (v : ℕ) → v < O.q ^ m → (r : ℕ) × (r < O.q ^ m) × (O.index (b * O.q ^ m + r) ≡ c * O.q ^ m + v)
  pub once : (r u : ℕ) → r < O.q ^ m → u < O.q ^ m → O.index (b * O.q ^ m + r) ≡ O.index (b * O.q ^ m + u) → r ≡ u

-- in every lawful order, the index runs over exactly one block of indexes while the position runs over a block
abbrev pub OrdersPermuteBlocks : Type 0
OrdersPermuteBlocks =
    (O : OrderModel) → OrderLaws O → (m b : ℕ) → m ≤ O.digits → (b + 1) * O.q ^ m ≤ O.q ^ O.digits
    → (c : ℕ) × ((c + 1) * O.q ^ m ≤ O.q ^ O.digits) × RunsOver O m b c
