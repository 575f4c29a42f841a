use Rattle.std.proofs.Common.{◌%◌, ◌^◌, ◌≤◌, sym, ap, ◌∙◌, subst, ap₂}
use Rattle.base.specs.Points.{numerator, word}
use Rattle.nets.proofs.Numbers.{number_in_32_bits}
use Rattle.run.specs.Runs.{parts}
use Rattle.tables.specs.Places.{place}
use Rattle.tables.specs.Table.{model}
use Rattle.block_examples.proofs.TableWords.{scrambled_word}
use Rattle.block_examples.proofs.points.Points.numerator.Goals as goal

pub returns : goal.returns
returns g c =
    let points = c.args.self.now in
    let F = g.F.Field.means points.field.now in
    let S = g.S.Scrambler.means points.scrambler.now in
    let T = model points.table.now in
    let w = S.scramble c.args.coordinate (word F T c.args.coordinate c.args.index) in
    let digits = scrambled_word (parts F (g.O.Order.means points.order.now) S) T points.agree (g.met.F.Field.keeps points.field.now)
    (g.met.S.Scrambler.keeps points.scrambler.now) (λ j k l. points.table.now.small (place j k l)) c.args.coordinate c.args.index c.requires in
    c.number_of.ensures
    ∙ ap₂ (λ q xs. numerator q xs % 2 ^ 32) c.q.ensures (c.scramble.ensures ∙ ap (S.scramble c.args.coordinate) c.write_word.ensures)
    ∙ number_in_32_bits T.q w digits.1 (subst (λ n. T.q ^ n ≤ 2 ^ 32) (sym digits.0) points.table.now.shape.width.1)
