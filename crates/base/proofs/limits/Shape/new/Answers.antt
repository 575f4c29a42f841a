use Rattle.base.proofs.Widths.{at_most_32_digits}
use Rattle.base.proofs.limits.Shape.new.Goals as goal

pub invariant_of-result-clause-narrow : goal.invariant_of-result-clause-narrow
invariant_of-result-clause-narrow c =
    let is = c.in-Some.ensures in
    at_most_32_digits c.args.q c.args.digits is.0.0.0 is.0.1.1
