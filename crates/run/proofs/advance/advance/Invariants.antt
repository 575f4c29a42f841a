use Rattle.std.proofs.Common.{◌≡◌, ◌/◌, ◌^◌, ◌≤◌, length}
use Rattle.base.specs.Orders.{digit}
use Rattle.tables.specs.Table.{model}
use Rattle.run.specs.Present.{Present}
use Rattle.run.proofs.Moving.{MovedUpTo}
use Rattle.run.proofs.advance.advance.Given as goal

-- the quotients by the power of q so far; the digits before the column are moved
abbrev pub invariant-loop-column : goal.invariant-loop-column
invariant-loop-column g l =
    (length l.coordinates ≡ 8) × (l.changed ≤ l.column) × (l.old ≡ l.from / l.table.shape.q ^ l.column)
    × (l.new ≡ l.to / l.table.shape.q ^ l.column)
    × ((g.F.Field.means l.field).q ≡ (model l.table).q
    → Present (g.F.Field.means l.field) (model l.table) (digit l.table.shape.q l.from) l.initial.coordinates
    → MovedUpTo (g.F.Field.means l.field) (model l.table) l.from l.to l.column l.coordinates l.changed)
