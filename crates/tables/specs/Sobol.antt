-- Sobol' tables. Assumes nothing.
use Rattle.std.specs.Prelude.{ℕ, ◌+◌, ◌-◌, ◌*◌, ◌/◌, ◌%◌, ◌^◌, ◌<◌, cond, List, [], ◌∷◌, ◌++◌, length, nat_le, slice_index_or}
use Rattle.base.specs.Faults.{refusal}
use Rattle.base.specs.Tables.{DigitLimits, TableModel}
use Rattle.base.specs.Tests.{Test, test, in_turn}
use Rattle.tables.specs.Directions.{direction_of, Numbers, record_tests}
use Rattle.tables.specs.Reader.{list_tests, record_at}

-- the digit in row k and column l: the bit of m_(l+1) at 2^(l+1-k), and 0 if k exceeds l + 1
abbrev pub sobol_digit : (ℕ → ℕ) → ℕ → ℕ → ℕ
sobol_digit m k l = cond (nat_le k (l + 1)) (m (l + 1) / 2 ^ (l + 1 - k) % 2) 0

-- the record of coordinate j
abbrev pub record_of : List ℕ → ℕ → List ℕ
record_of list j = record_at list (20 * j)

-- the Sobol' table of a list, of M digits: a coordinate for each record, with that record's direction numbers
abbrev pub sobol_table : List ℕ → ℕ → TableModel
sobol_table list M =
    record { q = 2; digits = M; coordinates = length list / 20; entry = λ j k l. sobol_digit (direction_of (record_of list j)) k l }

-- the tests of the records of a list, one after the other
abbrev pub records_tests : List ℕ → List Test
records_tests list = in_turn (λ j. record_tests (record_of list j) j (20 * j)) 0 (length list / 20)

-- the tests of a list and M, in their order: the list, M, then record by record
abbrev pub sobol_tests : List ℕ → ℕ → List Test
sobol_tests list M = list_tests list ++ test (DigitLimits 2 M → ⊥) (refusal 2 2 255 0) ∷ records_tests list

-- the direction numbers of the first n records
abbrev pub NumbersUpTo : List ℕ → ℕ → List (List ℕ) → Type 0
NumbersUpTo list n all = (j : ℕ) → j < n → Numbers (record_of list j) (slice_index_or all j [])
