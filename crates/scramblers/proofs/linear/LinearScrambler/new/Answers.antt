use Rattle.std.proofs.Common.{rules}
use Rattle.base.specs.Digits.{BeginsWith}
use Rattle.scramblers.proofs.Placing.{matrices_stand}
use Rattle.scramblers.proofs.linear.LinearScrambler.new.Goals as goal

pub invariant_of-result : goal.invariant_of-result
invariant_of-result g c =
    let same : BeginsWith c.args.bytes.now c.padded.result =
    matrices_stand c.in_ok-shape.shape _ _ _ c.args.bytes.now c.padded.result c.in_ok-shape.ensures.1 (search rules) c.padded.ensures in
    search rules

pub returns : goal.returns
returns g c =
    let same : BeginsWith c.args.bytes.now c.padded.result =
    matrices_stand c.in_ok-shape.shape _ _ _ c.args.bytes.now c.padded.result c.in_ok-shape.ensures.1 (search rules) c.padded.ensures in
    search rules
