use Rattle.std.proofs.Common.{◌+◌, get_or, length, refl, ap, ◌∙◌, arith}
use Rattle.std.proofs.lemmas.List.{length_push}
use Rattle.std.proofs.lemmas.Slice.Zip.{zip_turn}
use Rattle.std.specs.Iterator.Adapters.{zip_first, zip_second}
use Rattle.std.specs.Slice.Iter.{iter_rest}
use Rattle.checks.proofs.Tallies.{cell_goes_on, cell_within_cells, cells_fit, count_within_total, divisor_is_some, grid_powers}
use Rattle.checks.proofs.grid.Grid.cell_of.Goals as goal

pub bounds-self-d : goal.bounds-self-d
bounds-self-d c =
    let turn = zip_turn c.args.counts.now c.args.point.now c.loop-d.yielded _ c.loop-d.d-iterator c.next.new.self c.next.result
    (ap (λ z. iter_rest (zip_first z)) c.into_iter-d-iterator.ensures.into_iter_gives ∙ ap iter_rest c.zip-d-items.ensures.first ∙ c.iter.ensures.rest)
    (ap (λ z. iter_rest (zip_second z)) c.into_iter-d-iterator.ensures.into_iter_gives ∙ c.zip-d-items.ensures.second.0)
    c.loop-d.yielded_by (c.in-Some.d, c.in-Some.x) c.in-Some.is c.next.ensures.steps in
    omega (arith, turn.2 0, c.requires.within, c.args.self.now.shape.narrow, count_within_total c.args.counts.now (length c.loop-d.yielded))

pub overflow_mul-cell : goal.overflow_mul-cell
overflow_mul-cell c =
    let turn = zip_turn c.args.counts.now c.args.point.now c.loop-d.yielded _ c.loop-d.d-iterator c.next.new.self c.next.result
    (ap (λ z. iter_rest (zip_first z)) c.into_iter-d-iterator.ensures.into_iter_gives ∙ ap iter_rest c.zip-d-items.ensures.first ∙ c.iter.ensures.rest)
    (ap (λ z. iter_rest (zip_second z)) c.into_iter-d-iterator.ensures.into_iter_gives ∙ c.zip-d-items.ensures.second.0)
    c.loop-d.yielded_by (c.in-Some.d, c.in-Some.x) c.in-Some.is c.next.ensures.steps in
    let g = c.args.self.now in
    let ds = c.args.counts.now in
    let j = length c.loop-d.yielded in
    rw (turn.2 0)
    (omega (
      arith,
      cell_within_cells g.shape.q g.shape.digits g.powers ds j c.loop-d.cell (get_or c.args.point.now j 0) (grid_powers g) c.requires.within turn.0
          (c.requires.digits j turn.1) c.loop-d.invariant.1,
      cells_fit g.shape.q g.shape.digits g.powers ds (j + 1) (grid_powers g) c.requires.within,
    ))

pub overflow_sub-cell : goal.overflow_sub-cell
overflow_sub-cell c =
    let turn = zip_turn c.args.counts.now c.args.point.now c.loop-d.yielded _ c.loop-d.d-iterator c.next.new.self c.next.result
    (ap (λ z. iter_rest (zip_first z)) c.into_iter-d-iterator.ensures.into_iter_gives ∙ ap iter_rest c.zip-d-items.ensures.first ∙ c.iter.ensures.rest)
    (ap (λ z. iter_rest (zip_second z)) c.into_iter-d-iterator.ensures.into_iter_gives ∙ c.zip-d-items.ensures.second.0)
    c.loop-d.yielded_by (c.in-Some.d, c.in-Some.x) c.in-Some.is c.next.ensures.steps in
    omega (arith, turn.2 0, c.requires.within, count_within_total c.args.counts.now (length c.loop-d.yielded))

pub nonzero_div-cell : goal.nonzero_div-cell
nonzero_div-cell c =
    let g = c.args.self.now in
    divisor_is_some g.shape.q g.shape.digits g.powers c.in-Some.d.now (grid_powers g)

pub overflow_add-cell : goal.overflow_add-cell
overflow_add-cell c =
    let turn = zip_turn c.args.counts.now c.args.point.now c.loop-d.yielded _ c.loop-d.d-iterator c.next.new.self c.next.result
    (ap (λ z. iter_rest (zip_first z)) c.into_iter-d-iterator.ensures.into_iter_gives ∙ ap iter_rest c.zip-d-items.ensures.first ∙ c.iter.ensures.rest)
    (ap (λ z. iter_rest (zip_second z)) c.into_iter-d-iterator.ensures.into_iter_gives ∙ c.zip-d-items.ensures.second.0)
    c.loop-d.yielded_by (c.in-Some.d, c.in-Some.x) c.in-Some.is c.next.ensures.steps in
    let g = c.args.self.now in
    let ds = c.args.counts.now in
    let j = length c.loop-d.yielded in
    rw (turn.2 0, c.from.ensures, turn.3 0)
    (omega (
      arith,
      cell_within_cells g.shape.q g.shape.digits g.powers ds j c.loop-d.cell (get_or c.args.point.now j 0) (grid_powers g) c.requires.within turn.0
          (c.requires.digits j turn.1) c.loop-d.invariant.1,
      cells_fit g.shape.q g.shape.digits g.powers ds (j + 1) (grid_powers g) c.requires.within,
    ))

pub loop-d-preserved : goal.loop-d-preserved
loop-d-preserved c =
    let turn = zip_turn c.args.counts.now c.args.point.now c.loop-d.yielded _ c.loop-d.d-iterator c.next.new.self c.next.result
    (ap (λ z. iter_rest (zip_first z)) c.into_iter-d-iterator.ensures.into_iter_gives ∙ ap iter_rest c.zip-d-items.ensures.first ∙ c.iter.ensures.rest)
    (ap (λ z. iter_rest (zip_second z)) c.into_iter-d-iterator.ensures.into_iter_gives ∙ c.zip-d-items.ensures.second.0)
    c.loop-d.yielded_by (c.in-Some.d, c.in-Some.x) c.in-Some.is c.next.ensures.steps in
    let g = c.args.self.now in
    let ds = c.args.counts.now in
    let xs = c.args.point.now in
    let j = length c.loop-d.yielded in
    rw (length_push c.loop-d.yielded (c.in-Some.d, c.in-Some.x), turn.2 0, c.from.ensures, turn.3 0) (
      cell_goes_on g.shape.q g.shape.digits g.powers ds xs j c.loop-d.cell (get_or xs j 0) (grid_powers g) c.requires.within turn.0 refl
          ∙ c.loop-d.invariant.0,
      cell_within_cells g.shape.q g.shape.digits g.powers ds j c.loop-d.cell (get_or xs j 0) (grid_powers g) c.requires.within turn.0
          (c.requires.digits j turn.1) c.loop-d.invariant.1,
    )
