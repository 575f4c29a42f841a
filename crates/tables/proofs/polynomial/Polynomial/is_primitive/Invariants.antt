use Rattle.std.proofs.Common.{◌-◌}
use Rattle.tables.specs.Primitive.{Leaves}
use Rattle.tables.proofs.Polynomials.{NoneBelow}
use Rattle.tables.proofs.polynomial.Polynomial.is_primitive.Given as goal

abbrev pub invariant-loop-e : goal.invariant-loop-e
invariant-loop-e l =
    Leaves l.self.degree l.self.bits (l._e - 1) l.power × NoneBelow l.self.degree l.self.bits l._e
