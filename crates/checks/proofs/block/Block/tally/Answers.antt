use Rattle.std.proofs.Common.{◌+◌, length, get_or, set, sym, subst, arith}
use Rattle.std.proofs.lemmas.List.{length_push}
use Rattle.checks.proofs.Tallies.{Counted, Left, counted_more, counter_within_points, left_more, next_point, none_left}
use Rattle.checks.proofs.block.Block.tally.Goals as goal

pub overflow_add-cells : goal.overflow_add-cells
overflow_add-cells c =
    let b = c.args.self.now in
    let x = b.grid.shape in
    omega (
      arith,
      b.few,
      c.loop-point.invariant.1.within,
      counter_within_points x.q x.digits x.coordinates c.args.counts.now (length c.loop-point.yielded) b.points.now
          c.loop-point.cells c.cell_of-cell.result c.cell_of-cell.ensures.bound c.loop-point.invariant.0,
    )

pub loop-point-preserved : goal.loop-point-preserved
loop-point-preserved c =
    let b = c.args.self.now in
    let x = b.grid.shape in
    let s = x.coordinates in
    let counts = c.args.counts.now in
    let points = b.points.now in
    let cells = c.loop-point.cells in
    let i = length c.loop-point.yielded in
    let point = c.in-Some.point.now in
    let before = c.loop-point.point-iterator in
    let after = c.next.new.self in
    let cell = c.cell_of-cell.result in
    let told = c.cell_of-cell.ensures in
    let left = c.loop-point.invariant.1 in
    let step = c.in-Some.ensures.steps in
    let more = sym (length_push c.loop-point.yielded c.in-Some.point) in (
      subst (λ k. Counted x.q x.digits s counts k points (set cells cell (get_or cells cell 0 + 1))) more
          (counted_more x.q x.digits s counts i points point cells cell
          (omega (arith, told.bound, c.requires.sizes, c.loop-point.auto.cells))
          told.value
          (next_point s b.size i points point before after left step)
          c.loop-point.invariant.0),
      subst (λ k. Left s b.size k points after) more (left_more s b.size i points point before after x.dimension.0 b.whole left step),
    )

pub returns : goal.returns
returns c k below =
    let b = c.args.self.now in
    let x = b.grid.shape in
    let all = none_left x.coordinates b.size (length c.loop-point.yielded) b.points.now c.loop-point.point-iterator b.whole
    c.loop-point.invariant.1 c.in-None.ensures.steps.1.0 in
    subst (λ n. Counted x.q x.digits x.coordinates c.args.counts.now n b.points.now c.loop-point.cells) all c.loop-point.invariant.0 k
    (omega (arith, c.requires.sizes, c.loop-point.auto.cells))
