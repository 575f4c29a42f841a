use Rattle.std.proofs.Common.{ℕ, ◌-◌, get_or, arith}
use Rattle.tables.proofs.Recurrence.{sum_with_term, sum_without_term, sum_is_recurrence}
use Rattle.tables.proofs.directions.next_number.Goals as goal
use Rattle.tables.proofs.directions.next_number.Goals.{then-polynomial-degree-eq1, else-polynomial-degree-eq1}

pub loop-k-preserved : goal.loop-k-preserved
loop-k-preserved c =
    let d = c.args.polynomial.degree in
    let p = c.args.polynomial.bits in
    let i = c.args.i in
    let k = c.loop-k.k in
    let s = c.loop-k.sum in
    let r = c.if-polynomial-degree-eq1.sum in
    let back : ℕ → ℕ = λ j. get_or c.args.numbers.now (i - j - 1) 0 in
    elim c.if-polynomial-degree-eq1.branch [
      | then-polynomial-degree-eq1 w ↦ sum_with_term d p i k s r back
          c.loop-k.auto.k (omega arith) (omega arith) (c.requires.small (i - k) (omega arith) (omega arith))
          w.if-polynomial-degree-eq1.true w.sum-is c.loop-k.invariant
      | else-polynomial-degree-eq1 w ↦ sum_without_term d p i k s r back
          c.loop-k.auto.k w.if-polynomial-degree-eq1.false w.sum-is c.loop-k.invariant
    ]

pub returns : goal.returns
returns c =
    let d = c.args.polynomial.degree in
    let i = c.args.i in
    sum_is_recurrence d c.args.polynomial.bits i c.loop-k.k c.loop-k.sum (λ j. get_or c.args.numbers.now (i - j - 1) 0)
    (omega arith) (omega arith) (c.requires.small (i - d) (omega arith) (omega arith)) (omega arith) c.loop-k.invariant
