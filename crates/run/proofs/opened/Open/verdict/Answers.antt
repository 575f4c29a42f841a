use Rattle.run.specs.Runs.{parts}
use Rattle.run.proofs.Standing.{verdict_answers, verdict_told}
use Rattle.run.proofs.opened.Open.verdict.Goals as goal

pub returns-clause-answer : goal.returns-clause-answer
returns-clause-answer g c =
    let o = c.args.self.now in
    let setup = c.args.setup.now in
    let P = parts (g.F.Field.means setup.field) (g.O.Order.means setup.order) (g.S.Scrambler.means setup.scrambler) in
    let r = c.first_passing.result in
    verdict_answers P o c.args.m r (verdict_told P o c.args.m r c.requires.agree c.first_passing.ensures)
