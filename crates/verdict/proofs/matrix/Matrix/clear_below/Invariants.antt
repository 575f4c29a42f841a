use Rattle.std.proofs.Common.{◌≡◌, ℕ, ◌<◌, ◌≤◌, List, [], get_or}
use Rattle.base.specs.Fields.{FieldModel}
use Rattle.verdict.specs.declared.matrix.Pivot.{Pivot}
use Rattle.verdict.proofs.matrix.Matrix.clear_below.Given as goal

-- the digit of a row in column l once the column of the pivot of another row is cleared in it
abbrev cleared_digit : FieldModel → Pivot → List ℕ → List ℕ → ℕ → ℕ
cleared_digit F p own row l =
    F.sum (get_or row l 0) (F.product (F.negative (F.product (get_or row p.column 0) p.inverse)) (get_or own l 0))

-- the rows so far are cleared, and the others are as they were
abbrev pub invariant-loop-row : goal.invariant-loop-row
invariant-loop-row g l =
    ((k i : ℕ) → k < l.row-index → i < l.columns
    → get_or (get_or l.row-items k []) i 0
    ≡ cleared_digit (g.F.Field.means l.field) l.pivot l.pivot_row (get_or l.initial.row-items k []) i)
    × ((k : ℕ) → l.row-index ≤ k → get_or l.row-items k [] ≡ get_or l.initial.row-items k [])
