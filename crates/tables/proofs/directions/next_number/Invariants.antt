use Rattle.std.proofs.Common.{◌-◌, get_or}
use Rattle.tables.proofs.Recurrence.{SumBefore}
use Rattle.tables.proofs.directions.next_number.Given as goal

-- the sum of the terms before the k-th, a number of i bits
abbrev pub invariant-loop-k : goal.invariant-loop-k
invariant-loop-k l = SumBefore l.polynomial.degree l.polynomial.bits (λ j. get_or l.numbers (l.i - j - 1) 0) l.i l.k l.sum
