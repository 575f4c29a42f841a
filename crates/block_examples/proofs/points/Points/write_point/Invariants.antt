use Rattle.std.proofs.Common.{◌≡◌, ℕ, ◌<◌, get_or}
use Rattle.base.specs.Points.{numerator, word}
use Rattle.tables.specs.Table.{model}
use Rattle.block_examples.proofs.points.Points.write_point.Given as goal

-- the numerators so far are written
abbrev pub invariant-loop-coordinate : goal.invariant-loop-coordinate
invariant-loop-coordinate g l =
    let F = g.F.Field.means l.self.field.now in
    let S = g.S.Scrambler.means l.self.scrambler.now in
    let T = model l.self.table.now in
    (k : ℕ) → k < l.coordinate → get_or l.out k 0 ≡ numerator T.q (S.scramble k (word F T k l.index))
