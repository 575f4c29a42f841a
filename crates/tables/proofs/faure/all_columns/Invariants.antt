use Rattle.std.proofs.Common.{◌≡◌, length}
use Rattle.tables.specs.Columns.{PowerColumns}
use Rattle.tables.proofs.faure.all_columns.Given as goal

-- the columns of the coordinates so far are those of the powers
abbrev pub invariant-loop-a : goal.invariant-loop-a
invariant-loop-a g l = (length l.powers_of_a-items ≡ l.coordinates) × PowerColumns (g.F.Field.means l.field) l.a l.powers_of_a-items
