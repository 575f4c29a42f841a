use Rattle.std.proofs.Common.{◌≡◌, ◌^◌, ◌<◌, length, take, drop}
use Rattle.base.specs.Nets.{total}
use Rattle.checks.specs.Counting.{cell_of}
use Rattle.checks.proofs.grid.Grid.cell_of.Given as goal

-- the number goes on with the counts that are left to the number of the cell, and is below that of the cells so far
abbrev pub invariant-loop-d : goal.invariant-loop-d
invariant-loop-d l =
    (cell_of l.self.shape.q l.self.shape.digits l.cell (drop (length l.yielded) l.counts) (drop (length l.yielded) l.point) ≡ cell_of l.self.shape.q l.self.shape.digits 0 l.counts l.point)
    × (l.cell < l.self.shape.q ^ total (take (length l.yielded) l.counts))
