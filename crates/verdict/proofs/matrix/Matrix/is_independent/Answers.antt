use Rattle.std.proofs.Common.{◌∙◌, [], get_or, refl, subst, subst₂, arith}
use Rattle.verdict.proofs.RowsLeft.{reduced_all, reduced_more, reduced_none, zero_row_settles}
use Rattle.verdict.specs.Matrices.{ClearedBelow, PivotAt}
use Rattle.verdict.proofs.matrix.Matrix.is_independent.Goals as goal

pub loop-own-init : goal.loop-own-init
loop-own-init g c =
    let x = c.args.self in
    (refl, refl, reduced_none (g.F.Field.means c.args.field.now) x.count x.columns x.rows c.requires)

pub returns-in_default : goal.returns-in_default
returns-in_default g c =
    let f = c.args.field.now in
    let x = c.args.self in
    zero_row_settles (g.F.Field.means f) (g.met.F.Field.keeps f) x.count x.columns c.loop-own.own x.rows c.loop-own.self.rows
    c.loop-own.invariant.2 (omega arith) (λ l h. c.in_default.ensures l (omega (arith, h, c.loop-own.invariant.1)))

pub loop-own-preserved : goal.loop-own-preserved
loop-own-preserved g c =
    let f = c.args.field.now in
    let x = c.args.self in
    let F = g.F.Field.means f in
    let row = get_or c.loop-own.self.rows c.loop-own.own [] in
    let told = c.clear_below.ensures in (
      told.count ∙ c.loop-own.invariant.0,
      told.columns ∙ c.loop-own.invariant.1,
      reduced_more (g.F.Field.means f) (g.met.F.Field.keeps f) x.count x.columns c.loop-own.own x.rows c.loop-own.self.rows
          c.loop-own.invariant.2 (omega arith) c.in-Some.pivot c.clear_below.new.self.rows
          (subst (λ m. PivotAt F m row c.in-Some.pivot) c.loop-own.invariant.1 c.in-Some.ensures)
          (subst₂ (λ m n. ClearedBelow F m c.loop-own.own c.in-Some.pivot n c.loop-own.self.rows c.clear_below.new.self.rows)
          c.loop-own.invariant.1 c.loop-own.invariant.0 told.rows),
    )

pub returns : goal.returns
returns g c =
    let x = c.args.self in
    reduced_all (g.F.Field.means c.args.field.now) x.count x.columns c.loop-own.own x.rows c.loop-own.self.rows c.loop-own.invariant.2
    (omega arith)
