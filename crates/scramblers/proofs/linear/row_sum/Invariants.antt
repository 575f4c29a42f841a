use Rattle.std.proofs.Common.{◌≡◌, get_or}
use Rattle.base.specs.Fields.{sum_over}
use Rattle.scramblers.proofs.linear.row_sum.Given as goal

-- the sum of the products so far
abbrev pub invariant-loop-i : goal.invariant-loop-i
invariant-loop-i g l =
    l.sum ≡ sum_over (g.F.Field.means l.field) l.i (λ k. (g.F.Field.means l.field).product (get_or l.row k 0) (get_or l.word k 0))
