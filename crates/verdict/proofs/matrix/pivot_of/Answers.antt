use Rattle.std.proofs.Common.{◌≡◌, ◌<◌, get_or, ap, ◌∙◌, below_more, arith}
use Rattle.std.proofs.lemmas.List.{get_or-take, length-take-le}
use Rattle.verdict.proofs.Inverses.{inverse_inverts, no_inverse_of_zero_alone}
use Rattle.verdict.proofs.matrix.pivot_of.Goals as goal

pub returns-in-Some : goal.returns-in-Some
returns-in-Some g c =
    let F = g.F.Field.means c.args.field.now in
    let laws = g.met.F.Field.keeps c.args.field.now in
    let row = c.args.row.now in
    let l = c.loop-column.column in
    let inside : l < c.args.columns = omega (arith, c.loop-column-test.true, c.requires.within, c.told-row, length-take-le c.args.columns row) in
    let told = inverse_inverts F laws (get_or row l 0) (c.requires.digits l inside) c.in-Some.inverse
    (c.in-Some.ensures ∙ ap F.inverse (get_or-take c.args.columns row l 0 inside)) in
    record { inside = inside; small = told.0; inverse = told.1 }

pub loop-column-preserved : goal.loop-column-preserved
loop-column-preserved g c =
    let F = g.F.Field.means c.args.field.now in
    let laws = g.met.F.Field.keeps c.args.field.now in
    let row = c.args.row.now in
    let l = c.loop-column.column in
    let inside : l < c.args.columns = omega (arith, c.loop-column-test.true, c.requires.within, c.told-row, length-take-le c.args.columns row) in
    below_more (λ k. get_or row k 0 ≡ 0) l c.loop-column.invariant
    (no_inverse_of_zero_alone F laws (get_or row l 0) (c.requires.digits l inside)
    (c.in_default.ensures ∙ ap F.inverse (get_or-take c.args.columns row l 0 inside)))
