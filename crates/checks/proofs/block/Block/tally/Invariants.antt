use Rattle.std.proofs.Common.{length}
use Rattle.checks.proofs.Tallies.{Counted, Left}
use Rattle.checks.proofs.block.Block.tally.Given as goal

-- the points so far are counted, and the others are to come
abbrev pub invariant-loop-point : goal.invariant-loop-point
invariant-loop-point l =
    Counted l.self.grid.shape.q l.self.grid.shape.digits l.self.grid.shape.coordinates l.counts (length l.yielded) l.self.points.now l.cells
    × Left l.self.grid.shape.coordinates l.self.size (length l.yielded) l.self.points.now l.point-iterator
