use Rattle.std.proofs.Common.{◌≡◌, ℕ, ◌+◌, ◌-◌, ◌*◌, ◌<◌, length}
use Rattle.base.specs.Points.{point}
use Rattle.tables.specs.Table.{model}
use Rattle.block_examples.proofs.PointLists.{point_at}
use Rattle.block_examples.proofs.points.Points.block_points.Given as goal

-- the points so far are written
abbrev pub invariant-loop-position : goal.invariant-loop-position
invariant-loop-position g l =
    let T = model l.self.table.now in
    record {
      size : length l.numerators.items ≡ (l.position - l.first) * T.coordinates;
      room : length l.point ≡ T.coordinates;
      done : (k : ℕ) → k < l.position - l.first
          → point_at T.coordinates l.numerators.items k
          ≡ point (g.F.Field.means l.self.field.now) (g.O.Order.means l.self.order.now) (g.S.Scrambler.means l.self.scrambler.now) T (l.first + k);
    }
