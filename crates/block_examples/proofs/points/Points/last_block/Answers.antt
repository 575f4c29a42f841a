use native.Mathlib.Nat.{one-le-pow}
use Rattle.std.proofs.Common.{◌-◌, ◌^◌, ◌≤◌, ap, ◌∙◌, arith}
use Rattle.block_examples.proofs.points.Points.last_block.Goals as goal

pub overflow_sub-result : goal.overflow_sub-result
overflow_sub-result g c =
    let shape = c.args.self.now.table.now.shape in
    let some : 1 ≤ shape.q = omega (arith, shape.base) in
    omega (arith, c.power.ensures, one-le-pow (c.digits.result - c.args.m) shape.q some)

pub returns : goal.returns
returns g c =
    let shape = c.args.self.now.table.now.shape in
    let some : 1 ≤ shape.q = omega (arith, shape.base) in
    omega (
      arith,
      c.power.ensures ∙ ap (λ M. shape.q ^ (M - c.args.m)) c.digits.ensures,
      one-le-pow (shape.digits - c.args.m) shape.q some,
    )
