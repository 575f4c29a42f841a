use Rattle.std.proofs.Common.{◌≡◌, ℕ, ◌+◌, ◌-◌, ◌*◌, ◌^◌, ◌≤◌, sym, ap, ◌∙◌, subst, mul-le-mul_right, arith, pow-add}
use mathlib.Core.Path.{subst₃}
use Rattle.base.specs.Nets.{Least, Net}
use Rattle.checks.specs.Counting.{points_of}
use Rattle.block_examples.proofs.points.Points.least_of_block.Goals as goal

-- block b is one of the q^(M - m) blocks of q^m positions
block_within : (q M m b last : ℕ) → m ≤ M → last + 1 ≡ q ^ (M - m) → b ≤ last → (b + 1) * q ^ m ≤ q ^ M
block_within q M m b last h count few =
    let more : b + 1 ≤ q ^ (M - m) = omega arith in
    let all : M - m + m ≡ M = omega arith in
    subst (λ n. (b + 1) * q ^ m ≤ n) (sym (pow-add q (M - m) m) ∙ ap (λ k. q ^ k) all) (mul-le-mul_right (q ^ m) more)

pub block_points-requires : goal.block_points-requires
block_points-requires g c =
    let shape = c.args.self.now.table.now.shape in
    let m = c.args.m in
    let low : m ≤ shape.digits = omega (arith, c.digits.ensures) in
    (low, block_within shape.q shape.digits m c.args.block c.last_block.result low c.last_block.ensures c.if-block-last_block.false)

pub returns : goal.returns
returns g c =
    let m = c.args.m in
    let shape = c.args.self.now.table.now.shape in
    let xs = c.as_slice.result.now in
    let t = c.in_ok-least_t.field-0 in
    subst (λ points. Least (λ u. Net shape.q shape.digits shape.coordinates u m points) t)
    (ap (points_of shape.coordinates (shape.q ^ m)) c.as_slice.ensures.value ∙ c.in_ok-points.ensures)
    (subst₃ (λ q M s. Least (λ u. Net q M s u m (points_of s (q ^ m) xs)) t) c.q.ensures c.digits-2.ensures c.coordinates.ensures
    c.in_ok-least_t.ensures.answer.1.0)
