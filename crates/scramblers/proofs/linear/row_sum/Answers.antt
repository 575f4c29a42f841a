use Rattle.std.proofs.Common.{ℕ, get_or, sym, ap, ◌∙◌, ap₂, add-one}
use Rattle.base.specs.Fields.{sum_over}
use Rattle.scramblers.proofs.linear.row_sum.Goals as goal

pub loop-i-preserved : goal.loop-i-preserved
loop-i-preserved g c =
    let F = g.F.Field.means c.args.field.now in
    let f : ℕ → ℕ = λ k. F.product (get_or c.args.row.now k 0) (get_or c.args.word.now k 0) in
    c.add-sum.ensures ∙ ap₂ F.sum c.loop-i.invariant c.mul.ensures ∙ sym (ap (λ n. sum_over F n f) (add-one c.loop-i.i))
