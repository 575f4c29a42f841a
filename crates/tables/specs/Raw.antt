-- Raw tables: digits as the caller gives them. Assumes nothing.
use Rattle.std.specs.Prelude.{ℕ, ◌+◌, ◌-◌, ◌*◌, List, ◌∷◌, length, ◌≢◌, slice_index}
use Rattle.base.specs.Digits.{digit_tests}
use Rattle.base.specs.Faults.{refusal}
use Rattle.base.specs.Tables.{Limits, TableModel}
use Rattle.base.specs.Tests.{Test, test}

-- the table in s x M x M bytes, coordinate by coordinate, row by row
abbrev pub raw_table : ℕ → ℕ → ℕ → List ℕ → TableModel
raw_table q M s bytes =
    record { q = q; digits = M; coordinates = s; entry = λ j k l. slice_index bytes ((j * M + (k - 1)) * M + l) }

-- the tests of a raw table: the numbers q, M and s, the length, then each byte
abbrev pub raw_tests : ℕ → ℕ → ℕ → List ℕ → List Test
raw_tests q M s bytes =
    test (Limits q M s → ⊥) (refusal 2 2 255 0) ∷ test (length bytes ≢ s * (M * M)) (refusal 3 2 255 0)
    ∷ digit_tests q 2 bytes
