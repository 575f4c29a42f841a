use Rattle.std.proofs.Common.{◌≡◌, suc, ◌+◌, ◌<◌, length, sym, ap, ◌∙◌, subst₂, add-one, arith}
use Rattle.std.proofs.lemmas.List.{length-set}
use Rattle.tables.specs.Table.{model}
use Rattle.nets.proofs.SplitPlaces.{rows_before}
use Rattle.verdict.proofs.SplitFilling.{place_fits, rows_before_more, split_rows_more}
use Rattle.verdict.specs.Matrices.{SplitRows}
use Rattle.verdict.proofs.matrix.Matrix.of_split.Goals as goal
use Rattle.verdict.proofs.matrix.Matrix.of_split.Goals.{In-loop-row}

-- the place of the row at hand is below the number of columns
room : (c : In-loop-row) → c.loop-row.matrix.count < c.args.columns
room c =
    place_fits c.args.counts.now c.args.columns c.loop-row.matrix.count c.loop-coordinate.coordinate c.loop-row.row c.requires.few
    (record { coordinate = c.loop-coordinate-test.true; row = c.loop-row-test.true }) c.loop-row.invariant.2

pub table_row-row-requires-clause-row : goal.table_row-row-requires-clause-row
table_row-row-requires-clause-row c = (omega arith, omega (arith, c.requires.within, room (goal.at.table_row-row-requires-clause-row c).In-loop-row, c.loop-row.invariant.2))

pub loop-row-preserved : goal.loop-row-preserved
loop-row-preserved c =
    let T = model c.args.table.now in
    let counts = c.args.counts.now in
    let m = c.args.columns in
    let n = c.loop-row.matrix.count in
    let rows = c.loop-row.matrix.rows in
    let told = c.push.ensures in (
      ap length told.rows ∙ length-set rows n c.table_row-row.result ∙ c.loop-row.invariant.0,
      told.columns ∙ c.loop-row.invariant.1,
      omega (arith, told.count, c.loop-row.invariant.2),
      subst₂ (SplitRows T counts m) (sym told.count) (sym told.rows)
          (split_rows_more T counts m n c.loop-coordinate.coordinate c.loop-row.row rows c.table_row-row.result
          (omega (arith, room (goal.at.loop-row-preserved c).In-loop-row, c.loop-row.matrix.few, c.loop-row.matrix.narrow, c.loop-row.invariant.0, c.loop-row.invariant.1))
          c.loop-row.invariant.2
          (record { coordinate = c.loop-coordinate-test.true; row = c.loop-row-test.true })
          c.table_row-row.ensures c.loop-row.invariant.3),
    )

pub loop-coordinate-preserved : goal.loop-coordinate-preserved
loop-coordinate-preserved c =
    let j = c.loop-coordinate.coordinate in
    let counts = c.args.counts.now in
    let next : rows_before counts (j + 1) ≡ rows_before counts (suc j) = ap (rows_before counts) (add-one j) in (
      c.loop-row.invariant.0,
      c.loop-row.invariant.1,
      omega (arith, c.loop-row.invariant.2, next, rows_before_more counts j c.loop-coordinate-test.true),
      c.loop-row.invariant.3,
    )
