use Rattle.run.specs.Runs.{Agree, parts}
use Rattle.tables.specs.Table.{model}
use Rattle.run.proofs.Standing.{opens_table}
use Rattle.run.proofs.run.Run.open.Goals as goal

pub returns-clause-answer : goal.returns-clause-answer
returns-clause-answer g c =
    let setup = c.args.self.now.setup in
    let t = c.args.table.now in
    let P = parts (g.F.Field.means setup.field) (g.O.Order.means setup.order) (g.S.Scrambler.means setup.scrambler) in
    let agree : Agree P (model t) = c.agrees.ensures.0 c.if-not-agrees.false in (
      ((λ other. other agree), tt),
      opens_table P t c.new.result (g.met.F.Field.keeps setup.field) (g.met.O.Order.keeps setup.order) (g.met.S.Scrambler.keeps setup.scrambler)
          agree c.new.ensures.table c.new.ensures.position,
    )
