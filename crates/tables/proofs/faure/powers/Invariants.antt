use Rattle.std.proofs.Common.{ℕ, ◌≡◌, ◌<◌, [], length, get_or}
use Rattle.tables.specs.Columns.{PowerColumn}
use Rattle.tables.proofs.faure.powers.Given as goal

-- the columns so far are those of the powers, and `power` is the next
abbrev pub invariant-loop-column : goal.invariant-loop-column
invariant-loop-column g l =
    record {
      size : length l.column-items ≡ 32;
      done : (i : ℕ) → i < l.column-index → PowerColumn (g.F.Field.means l.field) l.a i (get_or l.column-items i []);
      next : PowerColumn (g.F.Field.means l.field) l.a l.column-index l.power;
    }
