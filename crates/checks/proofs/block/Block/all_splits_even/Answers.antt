use Rattle.std.proofs.Common.{◌-◌, ◌^◌, refl, subst}
use Rattle.base.specs.Nets.{Even}
use Rattle.base.proofs.SplitsPassed.{PassedUpTo, up_to_next}
use Rattle.checks.specs.Counting.{points_of}
use Rattle.checks.proofs.block.Block.all_splits_even.Goals as goal

pub loop-at-preserved : goal.loop-at-preserved
loop-at-preserved c =
    let b = c.args.self.now in
    let x = b.grid.shape in
    let even = Even x.q x.digits (x.q ^ c.args.t) (points_of x.coordinates b.size b.points.now) in
    let next = c.next-at.ensures in
    up_to_next x.coordinates (b.m - c.args.t) even c.in-Some.splits c.next-at.result
    (subst (PassedUpTo x.coordinates (b.m - c.args.t) even) c.in-Some.is c.loop-at.invariant)
    (subst even c.counts.ensures.value (c.if-not-split_is_even.ensures.0 refl)) next.same next.last next.none_between
