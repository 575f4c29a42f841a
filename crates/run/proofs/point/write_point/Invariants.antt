use Rattle.std.proofs.Common.{◌≡◌, ℕ, ◌<◌, length, get_or}
use Rattle.tables.specs.Table.{model}
use Rattle.run.specs.Written.{Writes}
use Rattle.run.proofs.point.write_point.Given as goal

-- the numerators so far are written
abbrev pub invariant-loop-j : goal.invariant-loop-j
invariant-loop-j g l =
    record {
      size : length l.out ≡ length l.initial.out;
      done : (k : ℕ) → k < l.j
          → Writes (g.S.Scrambler.means l.scrambler) (model l.table).q (model l.table).digits l.coordinates k (get_or l.out k 0);
    }
