use Rattle.std.proofs.Common.{◌≤◌, sym, ◌∙◌, inl, inr, arith, true≢false}
use Rattle.tables.specs.Primitive.{Primitive}
use Rattle.tables.proofs.Givens.{given_is_admissible, polynomial_passes}
use Rattle.tables.proofs.Recurrence.{numbers_from_given}
use Rattle.tables.proofs.directions.direction_numbers.Goals as goal
use Rattle.tables.proofs.directions.direction_numbers.Goals.{else-given-gt0-via-then-given-gt0+else-not-is_primitive, else-given-gt0-via-else-given-gt0}

pub returns-then-not-is_admissible : goal.returns-then-not-is_admissible
returns-then-not-is_admissible c =
    let bytes = c.args.record.now.bytes.now in
    let g = c.in-Some.given in
    let is = c.in-Some.ensures in
    let primitive : 1 ≤ g.polynomial.degree → Primitive g.polynomial.degree g.polynomial.bits =
    λ some. elim c.else-given-gt0.branch [
      | else-given-gt0-via-then-given-gt0+else-not-is_primitive w ↦ w.is_primitive.ensures.0 w.if-not-is_primitive.false
      | else-given-gt0-via-else-given-gt0 w ↦ absurd (omega (arith, w.if-given-gt0.false))
    ] in
    inr (
      λ no'. no' is.layout,
      inr (
        polynomial_passes bytes g is primitive,
        inl (
          λ admissible. true≢false (sym (c.is_admissible.ensures.1 ((given_is_admissible bytes g is).1 admissible)) ∙ c.if-not-is_admissible.true),
          c.fault-then-not-is_admissible.ensures,
        ),
      ),
    )

pub returns : goal.returns
returns c =
    let bytes = c.args.record.now.bytes.now in
    let g = c.in-Some.given in
    let is = c.in-Some.ensures in
    let primitive : 1 ≤ g.polynomial.degree → Primitive g.polynomial.degree g.polynomial.bits =
    λ some. elim c.else-given-gt0.branch [
      | else-given-gt0-via-then-given-gt0+else-not-is_primitive w ↦ w.is_primitive.ensures.0 w.if-not-is_primitive.false
      | else-given-gt0-via-else-given-gt0 w ↦ absurd (omega (arith, w.if-given-gt0.false))
    ] in
    let odd = c.is_admissible.ensures.0 c.if-not-is_admissible.false in (
      (
        λ no'. no' is.layout,
        (polynomial_passes bytes g is primitive, (λ no'. no' ((given_is_admissible bytes g is).0 odd), tt)),
      ),
      numbers_from_given bytes g c.extend.result is c.extend.ensures,
    )
