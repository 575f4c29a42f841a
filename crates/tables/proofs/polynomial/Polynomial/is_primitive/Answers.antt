use Rattle.std.proofs.Common.{◌≡◌, ℕ, ◌+◌, ◌-◌, subst, arith, pow_mono}
use Rattle.tables.specs.Primitive.{Leaves}
use Rattle.tables.proofs.Polynomials.{one_leaves_one, none_below_next, back_early_decides, last_decides}
use Rattle.tables.proofs.polynomial.Polynomial.is_primitive.Goals as goal

at_exponent : {d p r e : ℕ} (f : ℕ) → e ≡ f → Leaves d p e r → Leaves d p f r
at_exponent {d} {p} {r} f is x = subst (λ e. Leaves d p e r) is x

pub loop-e-init : goal.loop-e-init
loop-e-init c = (one_leaves_one c.args.self.now.degree c.args.self.now.bits c.requires, λ e l h x. omega arith)

pub returns-then-power-eq1 : goal.returns-then-power-eq1
returns-then-power-eq1 c =
    back_early_decides c.args.self.now.degree c.args.self.now.bits c.loop-e._e c.times_x-power.result
    c.loop-e.auto._e
    (omega (arith, pow_mono {i = c.args.self.now.degree} {j = 8} c.args.self.now.low))
    c.if-power-eq1.true
    (at_exponent c.loop-e._e (omega arith) (c.times_x-power.ensures.next (c.loop-e._e - 1) c.loop-e.invariant.0))

pub loop-e-preserved : goal.loop-e-preserved
loop-e-preserved c =
    let x = c.times_x-power.ensures.next (c.loop-e._e - 1) c.loop-e.invariant.0 in (
      at_exponent (c.loop-e._e + 1 - 1) (omega arith) x,
      none_below_next c.args.self.now.degree c.args.self.now.bits c.loop-e._e c.times_x-power.result
          c.args.self.now.top
          (at_exponent c.loop-e._e (omega arith) x)
          c.if-power-eq1.false
          c.loop-e.invariant.1,
    )

pub returns : goal.returns
returns c =
    last_decides c.args.self.now.degree c.args.self.now.bits c.loop-e._e c.times_x.result
    c.args.self.now.top
    (omega (arith, pow_mono {i = 1} {j = c.args.self.now.degree} c.requires, pow_mono {i = c.args.self.now.degree} {j = 8} c.args.self.now.low))
    (at_exponent c.loop-e._e (omega arith) (c.times_x.ensures.next (c.loop-e._e - 1) c.loop-e.invariant.0))
    c.loop-e.invariant.1
