use Rattle.std.proofs.Common.{◌≡◌, ◌^◌, ◌<◌, length, sym, ◌∙◌, subst, arith}
use Rattle.base.specs.Orders.{digit}
use Rattle.tables.specs.Table.{model}
use Rattle.run.specs.Present.{Present}
use Rattle.run.specs.Runs.{parts}
use Rattle.run.proofs.Calling.{at_answers, index_below}
use Rattle.verdict.proofs.SplitAnswers.{table_over}
use Rattle.run.proofs.opened.Open.at.Goals as goal

pub returns-clause-answer : goal.returns-clause-answer
returns-clause-answer g c =
    let o = c.args.self.now in
    let T = model o.table in
    let setup = c.args.setup.now in
    let F = g.F.Field.means setup.field in
    let O = g.O.Order.means setup.order in
    let P = parts F O (g.S.Scrambler.means setup.scrambler) in
    let agree = c.requires.agree in
    let fits : length c.args.out.now ≡ T.coordinates = c.if-out-coordinates.false ∙ c.coordinates.ensures in
    let low : c.args.position < T.q ^ T.digits = omega (arith, c.if-position-positions.false, c.positions.ensures) in
    let over = table_over F (g.met.F.Field.keeps setup.field) o.table agree.field_q in
    let ordering = g.met.O.Order.keeps setup.order in
    let below = index_below P T over agree ordering c.args.position low in
    let present : Present F T (digit T.q (O.index c.args.position)) c.present-coordinates.result =
    subst (λ i. Present F T (digit T.q i) c.present-coordinates.result) c.index.ensures
    (c.present-coordinates.ensures agree.field_q (subst (λ i. i < T.q ^ T.digits) (sym c.index.ensures) below)) in
    at_answers P T over agree ordering (g.met.S.Scrambler.keeps setup.scrambler) o.position c.args.position (length c.args.out.now)
    c.present-coordinates.result c.write_point.new.out low present fits c.write_point.ensures.size c.write_point.ensures.numerators
