use Rattle.std.proofs.Common.{ℕ, ◌/◌, ◌%◌, ◌^◌, sym, ap, ◌∙◌, ap₂, pow-suc, add-one}
use native.Mathlib.Nat.{div-div-eq-div-mul}
use Rattle.base.specs.Fields.{sum_over}
use Rattle.base.specs.Orders.{digit}
use Rattle.tables.specs.Table.{model}
use Rattle.block_examples.proofs.points.Points.row.Goals as goal

pub loop-column-preserved : goal.loop-column-preserved
loop-column-preserved g c =
    let F = g.F.Field.means c.args.self.now.field.now in
    let T = model c.args.self.now.table.now in
    let f : ℕ → ℕ = λ k. F.product (T.entry c.args.coordinate c.args.row k) (digit T.q c.args.index k) in
    let q_is = c.from-q.ensures ∙ c.q.ensures in
    let at = c.loop-column.column in record {
      added = c.add-sum.ensures ∙ ap₂ F.sum c.loop-column.invariant.added
          (c.mul.ensures ∙ ap₂ F.product c.in-Some.ensures.1 (ap₂ ◌%◌ c.loop-column.invariant.left q_is))
          ∙ sym (ap (λ n. sum_over F n f) (add-one at));
      left = ap₂ ◌/◌ c.loop-column.invariant.left q_is ∙ div-div-eq-div-mul c.args.index (T.q ^ at) T.q
          ∙ ap (λ n. c.args.index / n) (sym (ap (λ n. T.q ^ n) (add-one at) ∙ pow-suc T.q at));
    }
