use Rattle.std.proofs.Common.{◌^◌, ◌∙◌, refl, arith, below_more}
use Rattle.std.proofs.lemmas.Bool.Decides.{not_from_Decides}
use Rattle.base.specs.Nets.{Net}
use Rattle.checks.proofs.Blocks.{length_points, net_for_m}
use Rattle.checks.proofs.CellNumbers.{points_within, power_positive}
use Rattle.checks.specs.Counting.{points_of}
use Rattle.checks.proofs.block.Block.least_t.Goals as goal

pub returns-then-all_splits_even : goal.returns-then-all_splits_even
returns-then-all_splits_even c =
    let b = c.args.self.now in
    record {
      holds =
          record {
            size = length_points b.grid.shape.coordinates b.size b.points.now ∙ b.power;
            within = omega arith;
            even = c.if-all_splits_even.ensures.0 refl;
          };
      first = c.loop-t.invariant;
    }

pub loop-t-preserved : goal.loop-t-preserved
loop-t-preserved c =
    let b = c.args.self.now in
    let x = b.grid.shape in
    below_more (λ u. Net x.q x.digits x.coordinates u b.m (points_of x.coordinates b.size b.points.now) → ⊥) c.loop-t.t c.loop-t.invariant
    (λ net. not_from_Decides c.all_splits_even.result c.all_splits_even.ensures c.if-all_splits_even.false net.even)

pub returns : goal.returns
returns c =
    let b = c.args.self.now in
    let x = b.grid.shape in
    record {
      holds =
          net_for_m x.q x.digits x.coordinates b.m (points_of x.coordinates b.size b.points.now)
          (length_points x.coordinates b.size b.points.now ∙ b.power)
          (points_within (x.q ^ x.digits) x.coordinates b.size b.points.now (power_positive x.q x.digits x.base.0) b.small);
      first = λ u low. c.loop-t.invariant u (omega arith);
    }
