use Rattle.std.proofs.Common.{◌≡◌, ◌+◌, length, take}
use Rattle.base.specs.Nets.{total}
use Rattle.tables.specs.Table.{model}
use Rattle.verdict.specs.Matrices.{SplitRows}
use Rattle.verdict.proofs.matrix.Matrix.of_split.Given as goal

-- the rows of the coordinates before, and those of this one so far
abbrev pub invariant-loop-row : goal.invariant-loop-row
invariant-loop-row l =
    (length l.matrix.rows ≡ 32) × (l.matrix.columns ≡ l.columns) × (l.matrix.count ≡ total (take l.coordinate l.counts) + l.row)
    × SplitRows (model l.table) l.counts l.columns l.matrix.count l.matrix.rows

-- the rows of the coordinates so far
abbrev pub invariant-loop-coordinate : goal.invariant-loop-coordinate
invariant-loop-coordinate l =
    (length l.matrix.rows ≡ 32) × (l.matrix.columns ≡ l.columns) × (l.matrix.count ≡ total (take l.coordinate l.counts))
    × SplitRows (model l.table) l.counts l.columns l.matrix.count l.matrix.rows
