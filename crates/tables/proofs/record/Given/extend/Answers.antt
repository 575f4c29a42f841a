use Rattle.std.proofs.Common.{◌≡◌, ℕ, ◌-◌, ◌^◌, ◌<◌, get_or, sym, ◌∙◌, arith}
use Rattle.std.proofs.lemmas.List.{length-set, get_or-replicate}
use Rattle.tables.specs.Directions.{direction}
use Rattle.tables.proofs.Givens.{given_below}
use Rattle.tables.proofs.Recurrence.{direction_obeys, next_direction, holds_with_next}
use Rattle.tables.proofs.record.Given.extend.Goals as goal
use Rattle.tables.proofs.record.Given.extend.Goals.{then-i-degree, else-i-degree}

pub returns-then-degree-eq0 : goal.returns-then-degree-eq0
returns-then-degree-eq0 c i l u =
    get_or-replicate 32 (i - 1) 1 0 (omega arith)
    ∙ sym ((direction_obeys c.args.self.now.polynomial.degree c.args.self.now.polynomial.bits (λ k. get_or c.args.self.now.numbers (k - 1) 0) 32).ones c.if-degree-eq0.true i l u)

pub loop-i-preserved : goal.loop-i-preserved
loop-i-preserved c =
    let d = c.args.self.now.polynomial.degree in
    let p = c.args.self.now.polynomial.bits in
    let first : ℕ → ℕ = λ k. get_or c.args.self.now.numbers (k - 1) 0 in
    let i = c.loop-i.i in
    let ms = c.loop-i.numbers in
    let x = c.if-i-degree.numbers in
    let next : (x ≡ direction d p first i) × (x < 2 ^ i) = elim c.if-i-degree.branch [
      | then-i-degree w ↦
          let is : x ≡ first i = w.numbers-is ∙ w.from.ensures in (
            is ∙ sym ((direction_obeys d p first 32).starts i c.loop-i.auto.i w.if-i-degree.true (omega arith)),
            rw is (given_below c.args.self.now i c.loop-i.auto.i w.if-i-degree.true c.requires),
          )
      | else-i-degree w ↦ (
        w.numbers-is ∙ w.next_number.ensures.value
            ∙ next_direction d p first (λ j. get_or ms (j - 1) 0) i (omega arith) w.if-i-degree.false (λ k a b. (c.loop-i.invariant.1 k b a).0),
        rw w.numbers-is w.next_number.ensures.bound,
      )
    ] in (
      length-set ms (i - 1) x ∙ c.loop-i.invariant.0,
      holds_with_next d p first i ms x c.loop-i.auto.i (omega arith) next.0 next.1 c.loop-i.invariant.1,
    )
