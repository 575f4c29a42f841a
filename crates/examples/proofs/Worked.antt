-- The worked examples hold: most by computation, the verdicts by one test, and that of zeros by the laws of the field.
-- Assumes nothing.
use Rattle.std.proofs.Common.{◌≡◌, ℕ, true, List, ◌++◌, refl, inl, inr, arith}
use Rattle.examples.proofs.Verdicts.{first_passing_from_test, is_first}
use Rattle.examples.proofs.ZeroTables.{raw_zeros}
use Rattle.examples.specs.Stated.{AfterDegreeZero, EqualRecords, Settings, Verdict, WorkedExamples, degree_zero, eleven}
use Rattle.fields.specs.Bit.{bit_field}
use Rattle.tables.specs.Sobol.{sobol_table}

verdict : (list : List ℕ) (m t : ℕ) → is_first bit_field (sobol_table list 3) m t ≡ true → Verdict list m t
verdict list m t passed = first_passing_from_test bit_field (sobol_table list 3) m t passed

after_degree_zero : AfterDegreeZero
after_degree_zero =
    let list = degree_zero ++ eleven in
    (verdict list 0 0 refl, verdict list 1 0 refl, verdict list 2 0 refl, verdict list 3 1 refl)

equal_records : EqualRecords
equal_records = let list = eleven ++ eleven in (verdict list 1 0 refl, verdict list 2 1 refl, verdict list 3 2 refl)

-- q, M and s are within the limits and the three lengths are right, so the first test that finds a fault is that of the numerator
settings : Settings
settings = (
  refl,
  inr (
    λ outside. outside ((omega arith, omega arith), (omega arith, omega arith), (omega arith, omega arith)),
    inr (λ unlike. unlike (refl, refl, refl), inl (omega arith, refl)),
  ),
)

pub worked_examples_hold : WorkedExamples
worked_examples_hold = (
  (refl, refl, refl),
  (refl, refl),
  after_degree_zero,
  equal_records,
  raw_zeros,
  refl,
  (refl, refl, refl, refl),
  refl,
  settings,
)
