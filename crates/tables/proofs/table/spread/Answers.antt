use Rattle.std.proofs.Common.{◌<◌, length, sym, refl, ◌∙◌, arith, true≢false}
use Rattle.tables.proofs.Spreading.{spread_more, spread_none, whole_given, whole_small, whole_spare}
use Rattle.tables.proofs.table.spread.Goals as goal
use Rattle.tables.proofs.table.spread.Goals.{in-Some, in-None}

pub loop-index-init : goal.loop-index-init
loop-index-init g c = spread_none _ _ _ _ (omega (arith, c.args.shape.now.base)) c.args.shape.now.dimension.1

pub loop-index-preserved : goal.loop-index-preserved
loop-index-preserved g c =
    let room : c.loop-index.index < length c.loop-index.entry-items = omega (arith, c.loop-index.invariant.size) in
    elim c.match-place_at.branch [
      | in-Some w ↦
          let at = w.in-Some.at in
          let is = w.in-Some.ensures in
          spread_more _ _ _ _ c.loop-index.index c.loop-index.entry-items c.match-place_at.entry room
          (rw w.entry-is (c.requires.small at.coordinate at.row at.column w.rule.result is.inside w.rule.ensures))
          (λ _. rw (w.entry-is, ← is.place.0, ← is.place.1, ← is.place.2) w.rule.ensures)
          (λ spare. absurd (true≢false (is.spare.1 spare))) c.loop-index.invariant
      | in-None w ↦
          let some = c.args.shape.now.base in
          spread_more _ _ _ _ c.loop-index.index c.loop-index.entry-items c.match-place_at.entry room (rw w.entry-is (omega arith))
          (λ used. absurd (true≢false (sym used ∙ w.in-None.ensures.spare.0 refl))) (λ _. w.entry-is) c.loop-index.invariant
    ]

pub returns-clause-small : goal.returns-clause-small
returns-clause-small g c = whole_small _ _ _ _ _ _ c.loop-index.invariant (omega (arith, c.args.shape.now.base))

pub returns-clause-spare : goal.returns-clause-spare
returns-clause-spare g c = whole_spare _ _ _ _ _ _ c.loop-index.invariant

pub returns-clause-given : goal.returns-clause-given
returns-clause-given g c =
    whole_given _ _ _ _ _ _ c.loop-index.invariant
    (omega (arith, c.loop-index-test.false, c.loop-index.auto.entry-items, c.loop-index.invariant.size))
