-- The cells that all hold as many points tell that the split is even. Assumes nothing.
use Rattle.std.proofs.Common.{◌≡◌, ◌-◌, ◌^◌, ◌<◌, get_or, length, sym, ap, ◌∙◌, arith}
use Rattle.base.specs.Nets.{total}
use Rattle.checks.proofs.CellNumbers.{even_by_numbers, points_within, power_positive}
use Rattle.checks.proofs.Splitting.{cells_of_split, power_in_block}
use Rattle.checks.specs.Counting.{points_of}
use Rattle.checks.proofs.block.Block.split_is_even.Goals as goal

pub overflow_cast-expected-2 : goal.overflow_cast-expected-2
overflow_cast-expected-2 c =
    let b = c.args.self.now in
    omega (arith, b.few, power_in_block b c.args.t c.requires.within)

pub slice_bounds-cells-end : goal.slice_bounds-cells-end
slice_bounds-cells-end c =
    let b = c.args.self.now in
    omega (arith, c.requires.room, power_in_block b (b.m - c.args.t) (omega arith))

pub slice_bounds-cells-end-2 : goal.slice_bounds-cells-end-2
slice_bounds-cells-end-2 c =
    let b = c.args.self.now in
    let d = b.m - c.args.t in
    b.grid.powers_are d (omega (arith, b.reach)) ∙ sym (cells_of_split b d c.args.counters.now (omega arith) c.requires.room)

pub tally-requires-clause-sizes : goal.tally-requires-clause-sizes
tally-requires-clause-sizes c =
    let b = c.args.self.now in
    cells_of_split b (b.m - c.args.t) c.args.counters.now (omega arith) c.requires.room ∙ ap (λ k. b.grid.shape.q ^ k) (sym c.requires.split.1)

pub returns : goal.returns
returns c =
    let b = c.args.self.now in
    let x = b.grid.shape in
    let t = c.args.t in
    let counts = c.args.counts.now in
    let cells : length c.tally.new.cells ≡ x.q ^ total counts =
    c.tally.auto.cells ∙ cells_of_split b (b.m - t) c.args.counters.now (omega arith) c.requires.room ∙ ap (λ k. x.q ^ k) (sym c.requires.split.1) in
    let power : get_or b.grid.powers t 0 ≡ x.q ^ t = b.grid.powers_are t (omega (arith, b.reach, c.requires.within)) in
    let within = points_within (x.q ^ x.digits) x.coordinates b.size b.points.now (power_positive x.q x.digits x.base.0) b.small in
    let even = even_by_numbers x.q x.digits (x.q ^ t) counts (points_of x.coordinates b.size b.points.now) x.base.0
    (omega (arith, b.reach, c.requires.split.1)) within in (
      λ yes. even.0 (λ i below.
          let here : i < length c.tally.new.cells = omega (arith, cells) in
          sym (c.tally.ensures i here) ∙ c.all_equal.ensures.0 yes i here ∙ power),
      λ all. c.all_equal.ensures.1 (λ i below. c.tally.ensures i below ∙ even.1 all i (omega (arith, cells)) ∙ sym power),
    )
