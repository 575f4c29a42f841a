use Rattle.std.proofs.Common.{◌≡◌, ◌+◌, ◌-◌, ◌/◌, [], length, get_or, ap, ◌∙◌, subst, arith, rules}
use Rattle.base.specs.Tables.{Inside}
use Rattle.base.specs.Tests.{Clean}
use Rattle.tables.specs.Sobol.{NumbersUpTo, records_tests, sobol_digit}
use Rattle.tables.specs.Table.{model}
use Rattle.tables.proofs.SobolTables.{table_of_list}
use Rattle.tables.proofs.sobol.sobol_table.Goals as goal

pub returns : goal.returns
returns c =
    let list = c.args.list.now in
    let x = c.in_ok-shape.ensures in
    let shape = c.in_ok-shape.shape in
    let same = c.build.ensures.shape in
    let reader = c.in_ok-reader.ensures in
    let read = subst (λ xs. Clean (records_tests xs) × NumbersUpTo xs (length xs / 20) c.in_ok-numbers.numbers) reader.1.0 c.in_ok-numbers.ensures in
    let count : shape.coordinates ≡ length list / 20 = x.1.coordinates_are in (
      (reader.0.0, (reader.0.1.0, (λ no'. x.0.0 (λ limits. no' limits.1), read.0))),
      table_of_list list c.args.digits c.in_ok-numbers.numbers (model c.build.result) (rw x.1.digits_are at shape.narrow) read.1
          (ap (λ s. s.q) same ∙ x.1.q_is) (ap (λ s. s.digits) same ∙ x.1.digits_are) (ap (λ s. s.coordinates) same ∙ count)
          (λ j k l inside.
          let within : Inside shape.digits shape.coordinates j k l = rw (x.1.digits_are, count) inside in
          let told = c.build.ensures.entries j k l within in
          let ms = get_or c.in_ok-numbers.numbers j [] in
          let is : (model c.build.result).entry j k l ≡ sobol_digit (λ _. get_or ms l 0) k l = search rules in
          let e : l ≡ l + 1 - 1 = omega arith in
          is ∙ ap (λ n. sobol_digit (λ _. get_or ms n 0) k l) e),
    )
