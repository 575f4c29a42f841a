use Rattle.std.proofs.Common.{◌≡◌, ℕ, ◌<◌, ◌≤◌, length, get_or}
use Rattle.verdict.proofs.matrix.add_multiple.Given as goal

-- the columns so far hold the sum, and the others the row
abbrev pub invariant-loop-column : goal.invariant-loop-column
invariant-loop-column g l =
    (length l.row ≡ 32)
    × ((k : ℕ) → k < l.column
    → get_or l.row k 0
    ≡ (g.F.Field.means l.field).sum (get_or l.initial.row k 0) ((g.F.Field.means l.field).product l.factor (get_or l.other k 0)))
    × ((k : ℕ) → l.column ≤ k → get_or l.row k 0 ≡ get_or l.initial.row k 0)
