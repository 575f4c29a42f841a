use Rattle.std.proofs.Common.{ℕ, ◌<◌}
use Rattle.base.specs.Nets.{Net}
use Rattle.checks.specs.Counting.{points_of}
use Rattle.checks.proofs.block.Block.least_t.Given as goal

-- no t so far makes a net
abbrev pub invariant-loop-t : goal.invariant-loop-t
invariant-loop-t l =
    (u : ℕ) → u < l.t
    → Net l.self.grid.shape.q l.self.grid.shape.digits l.self.grid.shape.coordinates u l.self.m
    (points_of l.self.grid.shape.coordinates l.self.size l.self.points.now)
    → ⊥
