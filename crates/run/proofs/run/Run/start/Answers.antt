use Rattle.base.proofs.Testing.{refused_left}
use Rattle.base.specs.Faults.{stated}
use Rattle.std.proofs.lemmas.Result.{err_from_is_err_and}
use Rattle.tables.specs.Sobol.{sobol_table, sobol_tests}
use Rattle.tables.specs.Table.{model}
use Rattle.run.specs.Runs.{open_tests, parts}
use Rattle.run.specs.States.{Opens}
use Rattle.run.proofs.Standing.{start_gives}
use Rattle.run.proofs.run.Run.start.Goals as goal

pub returns-in_err-table-clause-answer : goal.returns-in_err-table-clause-answer
returns-in_err-table-clause-answer g c =
    let setup = c.args.self.now.setup in
    let P = parts (g.F.Field.means setup.field) (g.O.Order.means setup.order) (g.S.Scrambler.means setup.scrambler) in
    let list = c.args.list.now in
    let p = err_from_is_err_and c.from_residual.result c.from_residual.ensures.1 in
    rw (p.1, p.2)
    (refused_left (sobol_tests list c.args.digits) (open_tests P (sobol_table list c.args.digits)) (stated c.in_err-table.field-0.0) c.in_err-table.ensures)

pub returns-clause-answer : goal.returns-clause-answer
returns-clause-answer g c =
    let setup = c.args.self.now.setup in
    let P = parts (g.F.Field.means setup.field) (g.O.Order.means setup.order) (g.S.Scrambler.means setup.scrambler) in
    let built = c.in_ok-table.ensures in
    start_gives P c.args.list.now c.args.digits (model c.in_ok-table.table) c.open.result (λ U. Opens P U c.open.new.self.state)
    built.0 built.1 c.open.ensures.answer
