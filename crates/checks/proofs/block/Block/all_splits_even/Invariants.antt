use Rattle.std.proofs.Common.{◌-◌, ◌^◌}
use Rattle.base.specs.Nets.{Even}
use Rattle.base.proofs.SplitsPassed.{PassedUpTo, left_at}
use Rattle.checks.specs.Counting.{points_of}
use Rattle.checks.proofs.block.Block.all_splits_even.Given as goal

-- every split before the one at hand is even
abbrev pub invariant-loop-at : goal.invariant-loop-at
invariant-loop-at l =
    PassedUpTo l.self.grid.shape.coordinates (l.self.m - l.t)
    (λ counts. Even l.self.grid.shape.q l.self.grid.shape.digits (l.self.grid.shape.q ^ l.t)
    (points_of l.self.grid.shape.coordinates l.self.size l.self.points.now) counts) l.at

abbrev pub decreases-loop-at : goal.decreases-loop-at
decreases-loop-at l = left_at (l.self.m - l.t) l.at
