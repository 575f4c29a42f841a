use Rattle.std.proofs.Common.{◌≡◌, ℕ, ◌<◌, ◌≤◌, length, get_or}
use Rattle.run.proofs.coordinate.Coordinate.change.Given as goal

-- the rows so far are changed, the others are as they were
abbrev pub invariant-loop-k : goal.invariant-loop-k
invariant-loop-k g l =
    record {
      size : length l.digit-items ≡ 32;
      done : (k : ℕ) → k < l.k
          → get_or l.digit-items k 0
          ≡ (g.F.Field.means l.field).sum (get_or l.initial.digit-items k 0) ((g.F.Field.means l.field).product (get_or l.column k 0) l.by);
      left : (k : ℕ) → l.k ≤ k → get_or l.digit-items k 0 ≡ get_or l.initial.digit-items k 0;
    }
