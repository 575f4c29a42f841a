-- What the check of all splits needs of powers of q, and of counters that were set to 0. Assumes nothing.
use Rattle.std.proofs.Common.{◌≡◌, ℕ, ◌^◌, ◌≤◌, List, ◌++◌, drop, get_or, length, replicate, take, ap, ◌∙◌, arith}
use Rattle.std.proofs.lemmas.List.{drop_at, length-replicate, length-take-le, take_at}
use native.Mathlib.Nat.{pow-le-pow_right}
use Rattle.checks.specs.Counting.{Cleared}
use Rattle.checks.specs.declared.block.Block.{Block}

-- a power up to q^m is at most the number of points of a block
pub power_in_block : (b : Block) (k : ℕ) → k ≤ b.m → get_or b.grid.powers k 0 ≤ b.size
power_in_block b k h =
    omega (
      arith,
      b.reach,
      b.power,
      b.grid.powers_are k,
      pow-le-pow_right {n = b.grid.shape.q} (omega (arith, b.grid.shape.base.0)) {i = k} {j = b.m} h,
    )

-- the counters of a block have room for the cells of a split
pub cells_of_split : (b : Block) (d : ℕ) (counters : List ℕ) → d ≤ b.m → length counters ≡ b.size
    → length (take (get_or b.grid.powers d 0) counters) ≡ b.grid.shape.q ^ d
cells_of_split b d counters h room =
    length-take-le (get_or b.grid.powers d 0) counters (omega (arith, room, power_in_block b d h)) ∙ b.grid.powers_are d (omega (arith, b.reach))

-- counters of which the first n were set to 0
pub cleared_front : (n k : ℕ) (front before : List ℕ) → k ≡ n → front ≡ replicate k 0 → Cleared n before (front ++ drop k before)
cleared_front n k front before is zeros =
    let size : length front ≡ n = ap length zeros ∙ length-replicate k 0 ∙ is in (
      take_at front (drop k before) n size ∙ zeros ∙ ap (λ i. replicate i 0) is,
      drop_at front (drop k before) n size ∙ ap (λ i. drop i before) is,
    )
