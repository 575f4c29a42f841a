use Rattle.std.proofs.Common.{◌≡◌, ◌^◌, ◌<◌, length, ◌∙◌, arith}
use Rattle.tables.specs.Table.{model}
use Rattle.run.specs.Runs.{parts}
use Rattle.run.proofs.Calling.{step_answers}
use Rattle.verdict.proofs.SplitAnswers.{table_over}
use Rattle.run.proofs.opened.Open.step.Goals as goal

pub returns-clause-answer : goal.returns-clause-answer
returns-clause-answer g c =
    let o = c.args.self.now in
    let T = model o.table in
    let setup = c.args.setup.now in
    let F = g.F.Field.means setup.field in
    let P = parts F (g.O.Order.means setup.order) (g.S.Scrambler.means setup.scrambler) in
    let agree = c.requires.agree in
    let fits : length c.args.out.now ≡ T.coordinates = c.if-out-coordinates.false ∙ c.coordinates.ensures in
    let low : o.position < T.q ^ T.digits = omega (arith, c.if-positions-position.false, c.positions.ensures) in
    let told = c.advance_one-changed.ensures in
    let over = table_over F (g.met.F.Field.keeps setup.field) o.table agree.field_q in
    rw (told.table, told.position) (step_answers P T over agree (g.met.O.Order.keeps setup.order) o.position c.advance_one-changed.result o.coordinates
    c.advance_one-changed.new.self.coordinates low (λ h. rw told.position at (told.moved (rw told.position h))) (λ h. told.last (rw told.position h)) (c.requires.present low)
    (g.met.S.Scrambler.keeps setup.scrambler) (length c.args.out.now) c.write_point.new.out fits c.write_point.ensures.size
    c.write_point.ensures.numerators)
