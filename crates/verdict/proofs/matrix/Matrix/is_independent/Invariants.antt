use Rattle.std.proofs.Common.{◌≡◌}
use Rattle.verdict.proofs.RowsLeft.{Reduced}
use Rattle.verdict.proofs.matrix.Matrix.is_independent.Given as goal

-- the rows so far are done with
abbrev pub invariant-loop-own : goal.invariant-loop-own
invariant-loop-own g l =
    (l.self.count ≡ l.initial.self.count) × (l.self.columns ≡ l.initial.self.columns)
    × Reduced (g.F.Field.means l.field) l.initial.self.count l.initial.self.columns l.own l.initial.self.rows l.self.rows
