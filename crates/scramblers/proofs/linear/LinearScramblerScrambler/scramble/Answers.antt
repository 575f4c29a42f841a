use Rattle.std.proofs.Common.{◌≡◌, ◌+◌, ◌-◌, ◌*◌, ◌<◌, if◌then◌else◌, ◌==◌, ◌∙◌, subst, arith}
use Rattle.scramblers.specs.Triangles.{cell_below}
use Rattle.scramblers.proofs.Placing.{matrices_fit}
use Rattle.scramblers.proofs.RowSums.{part_sum}
use Rattle.scramblers.specs.Linear.{linear_word}
use Rattle.scramblers.specs.MatrixProducts.{ScrambledFrom, linear_in_place, scrambled_row}
use Rattle.scramblers.specs.Words.{left_outside}
use Rattle.scramblers.proofs.linear.LinearScramblerScrambler.scramble.Goals as goal

pub returns-then-not-scrambles : goal.returns-then-not-scrambles
returns-then-not-scrambles g c =
    let x = c.args.self.now in
    let F = g.F.Field.means x.field in
    left_outside x.shape.q x.shape.digits x.shape.coordinates c.args.coordinate c.args.word.now
    (λ j word. if F.q == x.shape.q then linear_word F x.shape.digits x.matrices j word else word)
    c.scrambles.result c.scrambles.ensures c.if-not-scrambles.true

pub loop-row-preserved : goal.loop-row-preserved
loop-row-preserved g c =
    let x = c.args.self.now in
    let F = g.F.Field.means x.field in
    let M = x.shape.digits in
    let j = c.args.coordinate in
    let row = c.loop-row.row - 1 in
    let low : row < M = omega arith in
    let told = c.scrambles.ensures.0 c.if-not-scrambles.false in
    let within = cell_below M x.shape.coordinates j row row told.0 low low in
    scrambled_row F M x.matrices j c.args.word.now c.loop-row.row row c.loop-row.word c.row_sum-digit.result (omega arith)
    (omega arith)
    (c.row_sum-digit.ensures
    ∙ part_sum F x.matrices c.loop-row.word ((j * M + row) * M) _ (row + 1) _ (omega (arith, within, matrices_fit x.shape)) (cc) (omega arith))
    c.loop-row.invariant

pub returns : goal.returns
returns g c =
    let x = c.args.self.now in
    let F = g.F.Field.means x.field in
    let end : c.loop-row.row ≡ 0 = omega arith in
    linear_in_place F (g.met.F.Field.keeps x.field) x.shape.q x.shape.digits x.shape.coordinates x.matrices
    c.args.coordinate c.args.word.now c.loop-row.word x.same_q x.placed
    (c.scrambles.ensures.0 c.if-not-scrambles.false)
    (subst (λ n. ScrambledFrom F x.shape.digits x.matrices c.args.coordinate c.args.word.now n c.loop-row.word) end c.loop-row.invariant)
