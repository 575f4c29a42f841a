use native.Mathlib.Nat.{pow-le-pow_right}
use Rattle.std.proofs.Common.{◌^◌, ◌<◌, ◌∙◌, ap₂, arith}
use Rattle.block_examples.proofs.points.Points.power.Goals as goal

pub pow-requires : goal.pow-requires
pow-requires g c =
    let shape = c.args.self.now.table.now.shape in
    let some : 0 < shape.q = omega (arith, shape.base) in
    omega (
      arith,
      ap₂ ◌^◌ (c.from.ensures ∙ c.q.ensures) c.from-2.ensures,
      pow-le-pow_right some {i = c.args.exponent} {j = shape.digits} c.requires,
      shape.width,
    )
