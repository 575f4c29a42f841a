use Rattle.std.proofs.Common.{◌<◌, arith}
use Rattle.checks.proofs.Tallies.{next_power_fits}
use Rattle.checks.proofs.grid.Grid.new.Goals as goal

pub overflow_mul-power : goal.overflow_mul-power
overflow_mul-power c =
    let x = c.args.shape in
    let low : c.loop-place.place-index < x.digits = omega (arith, c.loop-place-test.true, c.loop-place.invariant.size) in
    omega (
      arith,
      next_power_fits x.q x.digits c.loop-place.place-index c.loop-place.power c.from-q.result x.base.0 x.width.1 low c.from-q.ensures
          c.loop-place.invariant.last,
    )
