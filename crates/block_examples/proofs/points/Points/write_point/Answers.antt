use Rattle.std.proofs.Common.{ℕ, map, ap, ◌∙◌, arith}
use Rattle.std.proofs.lemmas.List.FromFn.{fill_by_all}
use Rattle.std.specs.List.{range_with_len}
use Rattle.base.specs.Points.{numerator, word}
use Rattle.tables.specs.Table.{model}
use Rattle.block_examples.proofs.points.Points.write_point.Goals as goal

pub returns : goal.returns
returns g c =
    let F = g.F.Field.means c.args.self.now.field.now in
    let S = g.S.Scrambler.means c.args.self.now.scrambler.now in
    let T = model c.args.self.now.table.now in
    let f : ℕ → ℕ → ℕ = λ i j. numerator T.q (S.scramble j (word F T j i)) in
    fill_by_all (f c.index-index.result) c.loop-coordinate.out T.coordinates 0 (omega (arith, c.requires))
    (λ k h. c.loop-coordinate.invariant k (omega (arith, h)))
    ∙ ap (λ i. map (f i) (range_with_len 0 T.coordinates)) c.index-index.ensures
