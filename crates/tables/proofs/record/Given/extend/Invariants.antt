use Rattle.std.proofs.Common.{◌≡◌, ◌-◌, length, get_or}
use Rattle.tables.proofs.Recurrence.{HoldsBefore}
use Rattle.tables.proofs.record.Given.extend.Given as the

-- the numbers before m_i are the direction numbers, and m_k is below 2^k
abbrev pub invariant-loop-i : the.invariant-loop-i
invariant-loop-i l = (length l.numbers ≡ 32) × HoldsBefore l.self.polynomial.degree l.self.polynomial.bits (λ k. get_or l.self.numbers (k - 1) 0) l.i l.numbers
