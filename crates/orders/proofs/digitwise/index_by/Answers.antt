use Rattle.std.proofs.Common.{◌+◌, ◌*◌, ◌%◌, ◌^◌, ◌<◌, ◌≤◌, ◌∙◌, mod-lt, arith}
use Rattle.orders.proofs.Building.{built_more, index_more, index_with_digit_small, next_weight_small}
use Rattle.orders.proofs.digitwise.index_by.Given as given
use Rattle.orders.proofs.digitwise.index_by.Goals as goal

-- the rule is given a place below 32 and a digit
digit_given : (g : given.Over) (c : goal.After-from g)
    → (c.loop-place.place < 32) × (c.loop-place.rest % c.from-q.result < c.args.size.now.q)
digit_given g c = (omega arith, omega (arith, mod-lt c.loop-place.rest {m = c.from-q.result} (omega arith)))

small : (g : given.Over) (c : goal.After-from g) → c.from.result < c.from-q.result
small g c =
    let given = digit_given g c in
    omega (arith, c.requires.small _ _ _ _ given.0 given.1 c.rule.ensures)

-- the next index is below the next weight, which is at most 2^36
next_index_small : (g : given.Over) (c : goal.After-from g)
    → (c.loop-place.index + c.from.result * c.loop-place.weight < c.loop-place.weight * c.from-q.result)
    × (c.loop-place.weight * c.from-q.result ≤ 2 ^ 36)
next_index_small g c =
    let size = c.args.size.now in
    let built = c.loop-place.invariant.built in
    let same = c.from-q.ensures in (
      index_with_digit_small built c.from.result (small g c),
      next_weight_small built size.digits (rw same size.base) (rw same size.width) (omega arith),
    )

pub overflow_mul-index : goal.overflow_mul-index
overflow_mul-index g c = omega (arith, next_index_small g c)

pub overflow_add-index : goal.overflow_add-index
overflow_add-index g c = omega (arith, next_index_small g c)

pub overflow_mul-weight : goal.overflow_mul-weight
overflow_mul-weight g c = omega (arith, next_index_small g c)

pub loop-place-preserved : goal.loop-place-preserved
loop-place-preserved g c =
    let before = c.loop-place.invariant in
    let given = digit_given g c in
    record {
      built = built_more before.built c.from.result (small g c);
      index_is = λ step by_rule.
          index_more before.built step c.from.result (before.index_is step by_rule)
          (c.from.ensures ∙ by_rule _ _ _ _ given.0 given.1 c.rule.ensures);
    }
