-- What a table of the engine means. Assumes nothing.
use Rattle.std.specs.Prelude.{slice_index}
use Rattle.base.specs.Tables.{TableModel}
use Rattle.tables.specs.Places.{place}
use Rattle.tables.specs.declared.table.Table.{Table}

-- what a table means
abbrev pub model : Table → TableModel
model t =
    record { q = t.shape.q; digits = t.shape.digits; coordinates = t.shape.coordinates; entry = λ j k l. slice_index t.entries (place j k l) }
