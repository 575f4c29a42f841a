use Rattle.std.proofs.Common.{ap, ◌∙◌, rules}
use Rattle.base.specs.Tables.{Inside}
use Rattle.tables.specs.Table.{model}
use Rattle.tables.proofs.Powers.{table_of_columns}
use Rattle.tables.proofs.faure.faure_table.Goals as goal

pub returns : goal.returns
returns g c =
    let F = g.F.Field.means c.args.field.now in
    let x = c.in_ok-shape.ensures in
    let shape = c.in_ok-shape.shape in
    let same = c.build.ensures.shape in
    let columns = c.all_columns-columns.result in (
      ((λ out. x.0.0 (rw (← c.q-q.ensures) at out)), search rules),
      table_of_columns F c.args.digits c.args.coordinates columns (model c.build.result)
          (rw x.1.digits_are at shape.narrow) c.all_columns-columns.ensures
          (ap (λ s. s.q) same ∙ x.1.q_is ∙ c.q-q.ensures) (ap (λ s. s.digits) same ∙ x.1.digits_are) (ap (λ s. s.coordinates) same ∙ x.1.coordinates_are)
          (λ j k l inside.
          let within : Inside shape.digits shape.coordinates j k l = rw (x.1.digits_are, x.1.coordinates_are) inside in
          let told = c.build.ensures.entries j k l within in
          search rules),
    )
