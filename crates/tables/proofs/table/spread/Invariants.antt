use Rattle.tables.specs.Places.{coordinate_at, row_at, column_at}
use Rattle.tables.proofs.Spreading.{Spread}
use Rattle.tables.proofs.table.spread.Given as goal

-- the digits of the places so far stand there, and 0 at the others
abbrev pub invariant-loop-index : goal.invariant-loop-index
invariant-loop-index g l =
    Spread l.shape.q l.shape.digits l.shape.coordinates
    (λ i x. goal.R-post g l.rule (coordinate_at i) (row_at i) (column_at i) x) l.index l.entry-items
