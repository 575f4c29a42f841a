use Rattle.std.proofs.Common.{◌≡◌, ◌+◌, ◌/◌, ◌%◌, ◌^◌, ◌<◌, sym, ap, ◌∙◌, subst, ap₂, subst₂, arith}
use native.Mathlib.Nat.{div-eq_of_lt}
use Rattle.base.specs.Orders.{digit}
use Rattle.tables.specs.Table.{model}
use Rattle.run.specs.Present.{Changed}
use Rattle.run.proofs.Moving.{MovedUpTo, moved_all, moved_changed, moved_same, next_quotient}
use Rattle.verdict.proofs.SplitAnswers.{table_over}
use Rattle.run.proofs.advance.advance.Goals as goal
use Rattle.run.proofs.advance.advance.Goals.{then-a-b, else-a-b}

pub loop-column-preserved : goal.loop-column-preserved
loop-column-preserved g c =
    let F = g.F.Field.means c.args.field.now in
    let laws = g.met.F.Field.keeps c.args.field.now in
    let T = model c.args.table.now in
    let q = c.args.table.now.shape.q in
    let l = c.loop-column.column in
    let inv = c.loop-column.invariant in
    let q_is : c.from-q.result ≡ q = c.from-q.ensures ∙ c.q.ensures in
    let inside : l < T.digits = omega (arith, c.loop-column-test.true, c.digits-column-end.ensures) in
    let a_is : c.loop-column.old % c.from-q.result ≡ digit q c.args.from l = ap₂ ◌%◌ inv.2 q_is in
    let b_is : c.loop-column.new % c.from-q.result ≡ digit q c.args.to l = ap₂ ◌%◌ inv.3 q_is in (
      c.if-a-b.array_long,
      elim c.if-a-b.branch [ then-a-b w ↦ omega (arith, w.changed-is, inv.1) | else-a-b w ↦ omega (arith, w.changed-is, inv.1) ],
      ap (λ n. c.loop-column.old / n) q_is ∙ next_quotient q c.args.from l c.loop-column.old inv.2,
      ap (λ n. c.loop-column.new / n) q_is ∙ next_quotient q c.args.to l c.loop-column.new inv.3,
      λ same present.
          let over = table_over F laws c.args.table.now same in
          let so_far = inv.4 same present in
          elim c.if-a-b.branch [
            | then-a-b w ↦
                let by : w.add.result ≡ F.sum (digit q c.args.to l) (F.negative (digit q c.args.from l)) =
                w.add.ensures ∙ ap₂ F.sum b_is (w.neg.ensures ∙ ap F.negative a_is) in
                let moved : MovedUpTo F T c.args.from c.args.to (l + 1) w.change_all.new.coordinates (c.loop-column.changed + 1) =
                moved_changed F T over c.args.from c.args.to l c.loop-column.coordinates w.change_all.new.coordinates c.loop-column.changed
                inside (λ e. w.if-a-b.true (a_is ∙ e ∙ sym b_is))
                (subst (λ d. Changed F T l d T.coordinates c.loop-column.coordinates w.change_all.new.coordinates) by (w.change_all.ensures inside))
                so_far in
                subst₂ (MovedUpTo F T c.args.from c.args.to (l + 1)) (sym w.coordinates-is) (sym w.changed-is) moved
            | else-a-b w ↦
                subst₂ (MovedUpTo F T c.args.from c.args.to (l + 1)) (sym w.coordinates-is) (sym w.changed-is)
                (moved_same F T over c.args.from c.args.to l c.loop-column.coordinates c.loop-column.changed
                (sym a_is ∙ w.if-a-b.false ∙ b_is) so_far)
          ],
    )

pub returns-then-old-new : goal.returns-then-old-new
returns-then-old-new g c = λ same low high present.
    let F = g.F.Field.means c.args.field.now in
    let laws = g.met.F.Field.keeps c.args.field.now in
    let inv = c.loop-column.invariant in
    moved_all F (model c.args.table.now) (table_over F laws c.args.table.now same) c.args.from c.args.to c.loop-column.column
    c.loop-column.coordinates c.loop-column.changed
    (omega (arith, c.loop-column-test.true, c.digits-column-end.ensures))
    (sym inv.2 ∙ c.if-old-new.true ∙ inv.3) (inv.4 same present)

pub returns-after-loop-column : goal.returns-after-loop-column
returns-after-loop-column g c = λ same low high present.
    let F = g.F.Field.means c.args.field.now in
    let laws = g.met.F.Field.keeps c.args.field.now in
    let T = model c.args.table.now in
    let inv = c.loop-column.invariant in
    let end : c.loop-column.column ≡ T.digits = omega (arith, c.loop-column.auto.column-end, c.loop-column-test.false, c.digits-column-end.ensures) in
    moved_all F T (table_over F laws c.args.table.now same) c.args.from c.args.to c.loop-column.column
    c.loop-column.coordinates c.loop-column.changed (omega (arith, end))
    (subst (λ l. c.args.from / T.q ^ l ≡ c.args.to / T.q ^ l) (sym end) (div-eq_of_lt low ∙ sym (div-eq_of_lt high))) (inv.4 same present)
