use Rattle.std.proofs.Common.{◌≡◌, ◌<◌, length}
use Rattle.tables.specs.Table.{model}
use Rattle.run.specs.Present.{Changed}
use Rattle.run.proofs.advance.change_all.Given as goal

-- the coordinates so far are changed
abbrev pub invariant-loop-j : goal.invariant-loop-j
invariant-loop-j g l =
    record {
      size : length l.coordinate-items ≡ (model l.table).coordinates;
      changed : l.column < (model l.table).digits
          → Changed (g.F.Field.means l.field) (model l.table) l.column l.by l.j l.initial.coordinate-items l.coordinate-items;
    }
