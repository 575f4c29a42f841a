use Rattle.std.proofs.Common.{◌≡◌, ℕ, ◌+◌, ◌<◌, get_or}
use Rattle.base.specs.Points.{row}
use Rattle.tables.specs.Table.{model}
use Rattle.block_examples.proofs.points.Points.write_word.Given as goal

-- the rows so far are written
abbrev pub invariant-loop-row : goal.invariant-loop-row
invariant-loop-row g l =
    (k : ℕ) → k < l.row
    → get_or l.word k 0 ≡ row (g.F.Field.means l.self.field.now) (model l.self.table.now) l.coordinate l.index (k + 1)
