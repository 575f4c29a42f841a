use Rattle.std.proofs.Common.{◌≡◌, ℕ, ◌<◌, get_or}
use Rattle.verdict.proofs.matrix.pivot_of.Given as goal

-- the columns so far are 0
abbrev pub invariant-loop-column : goal.invariant-loop-column
invariant-loop-column g l = (k : ℕ) → k < l.column → get_or l.row k 0 ≡ 0
