use Rattle.std.proofs.Common.{◌≡◌, length, replicate, arith}
use mathlib.Core.Path.{subst₃}
use Rattle.std.proofs.lemmas.Grind.{common_steps}
use Rattle.base.specs.Tests.{Clean}
use Rattle.checks.proofs.Blocks.{found_of_block}
use Rattle.checks.proofs.Splitting.{cleared_front}
use Rattle.checks.specs.Counting.{block_tests}
use Rattle.checks.proofs.check.least_t.Goals as goal

pub returns-clause-answer : goal.returns-clause-answer
returns-clause-answer c =
    let a = c.args in
    let made = c.in_ok-shape.ensures in
    let block = c.in_ok-block.ensures in
    let b = c.in_ok-block.block in
    let found = found_of_block c.in_ok-shape.shape a.q a.digits a.coordinates a.m c.least_t-t.result a.points.now b made.1 block.1.0
    block.1.1 block.1.2 c.least_t-t.ensures in
    let zeros : c.clear.new.counters ≡ replicate b.size 0 = grind (arith, common_steps) in (
      (
        made.0.0,
        subst₃ (λ q M s. Clean (block_tests q M s a.m a.points.now (length a.counters.now))) made.1.q_is made.1.digits_are
            made.1.coordinates_are block.0,
      ),
      (found.1, cleared_front _ b.size c.clear.new.counters a.counters.now found.0 zeros),
    )
