use Rattle.tables.proofs.Spreading.{place_column, place_coordinate, place_row, place_used}
use Rattle.tables.specs.Places.{place}
use Rattle.tables.proofs.table.Table.build.Goals as goal

pub returns-clause-entries : goal.returns-clause-entries
returns-clause-entries g c j k l inside =
    let x = c.args.shape in
    let few = x.dimension.1 in
    rw (
      place_coordinate x.digits x.coordinates j k l x.narrow few inside,
      place_row x.digits x.coordinates j k l x.narrow few inside,
      place_column x.digits x.coordinates j k l x.narrow few inside,
    ) at (c.spread-entries.ensures.given (place j k l) (place_used x.digits x.coordinates j k l x.narrow few inside))
