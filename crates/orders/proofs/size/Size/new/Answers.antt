use Rattle.std.proofs.Common.{◌≡◌, Some, rules}
use Rattle.base.proofs.Widths.{at_most_32_digits}
use Rattle.orders.proofs.size.Size.new.Goals as goal

pub invariant_of-result : goal.invariant_of-result
invariant_of-result c =
    let found : c.positions.result ≡ Some c.in_ok-positions.positions = search rules in
    let is = rw found at c.positions.ensures in
    record {
      base = is.0.0;
      width = is.0.1;
      narrow = at_most_32_digits c.args.q c.args.digits is.0.0.0 is.0.1.1;
      count = is.1;
    }
