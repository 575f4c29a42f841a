use Rattle.std.proofs.Common.{◌≡◌, ℕ, ◌<◌, get_or}
use Rattle.tables.specs.Table.{model}
use Rattle.verdict.proofs.matrix.table_row.Given as goal

-- the columns so far hold the table's digits
abbrev pub invariant-loop-column : goal.invariant-loop-column
invariant-loop-column l = (k : ℕ) → k < l.column → get_or l.digit-items k 0 ≡ (model l.table).entry l.coordinate l.row k
