use Rattle.std.proofs.Common.{◌≡◌, ℕ, ◌≤◌, length, get_or}
use Rattle.tables.specs.Columns.{under}
use Rattle.tables.proofs.Powers.{NextUpTo}
use Rattle.tables.proofs.faure.times_a_plus_x.Given as goal

-- the coefficients so far are those of the product, the others are those of p, and `below` is the last one read
abbrev pub invariant-loop-coefficient : goal.invariant-loop-coefficient
invariant-loop-coefficient g l =
    record {
      size : length l.coefficient-items ≡ 32;
      done : NextUpTo (g.F.Field.means l.field) l.a l.fn.column l.coefficient-index l.coefficient-items;
      left : (i : ℕ) → l.coefficient-index ≤ i → get_or l.coefficient-items i 0 ≡ get_or l.fn.column i 0;
      below : l.below ≡ under l.fn.column l.coefficient-index;
    }
