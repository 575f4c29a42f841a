-- Linear scrambling. Assumes nothing.
use Rattle.std.specs.Prelude.{◌≡◌, ℕ, ◌+◌, ◌*◌, ◌/◌, ◌%◌, Bool, true, if◌then◌else◌, not, ◌&&◌, ◌||◌, List, [], ◌∷◌, map, length, ◌==◌, ◌≢◌, nat_le, nat_lt, slice_index}
use Rattle.std.specs.List.{range_with_len}
use Rattle.base.specs.Faults.{refusal}
use Rattle.base.specs.Fields.{FieldModel, sum_over}
use Rattle.base.specs.Scramblers.{ScramblerModel}
use Rattle.base.specs.Tables.{Limits}
use Rattle.base.specs.Tests.{Test, test, in_turn}
use Rattle.scramblers.specs.Prefix.{scrambler_of}

-- the row and the column, both from 0, of the place i among matrices of M rows and columns
abbrev pub row_in : ℕ → ℕ → ℕ
row_in M i = i / M % M

-- the column of the place i
abbrev pub column_in : ℕ → ℕ → ℕ
column_in M i = i % M

-- x may not stand at the place i of the matrices: it is no digit, or 0 on the diagonal, or not 0 above it
abbrev pub misplaced : ℕ → ℕ → ℕ → ℕ → Bool
misplaced q M i x =
    nat_le q x || ((row_in M i == column_in M i && x == 0) || (nat_lt (row_in M i) (column_in M i) && not (x == 0)))

-- the product in the field of the matrix of coordinate j and a word; matrices lie one after the other, row by row
abbrev pub linear_word : FieldModel → ℕ → List ℕ → ℕ → List ℕ → List ℕ
linear_word F M matrices j word =
    map (λ k. sum_over F M (λ i. F.product (slice_index matrices ((j * M + k) * M + i)) (slice_index word i))) (range_with_len 0 M)

-- each word is multiplied by its coordinate's matrix; where the field has another q, which no scrambler that was made has,
-- it stays as it is
abbrev pub linear_scrambler : FieldModel → ℕ → ℕ → ℕ → List ℕ → ScramblerModel
linear_scrambler F q M s matrices =
    scrambler_of q M s (λ j word. if F.q == q then linear_word F M matrices j word else word)

-- the test of one byte: one that may not stand where it stands is refused with its index as place
abbrev pub place_test : ℕ → ℕ → List ℕ → ℕ → List Test
place_test q M bytes i = test (misplaced q M i (slice_index bytes i) ≡ true) (refusal 7 6 255 i) ∷ []

-- the tests of the bytes of matrices, one after the other
abbrev pub place_tests : ℕ → ℕ → List ℕ → List Test
place_tests q M bytes = in_turn (place_test q M bytes) 0 (length bytes)

-- the tests of a linear scrambler: M and s, the length, then each byte
abbrev pub linear_tests : ℕ → ℕ → ℕ → List ℕ → List Test
linear_tests q M s bytes =
    test (Limits q M s → ⊥) (refusal 2 6 255 0) ∷ test (length bytes ≢ s * (M * M)) (refusal 3 6 255 0)
    ∷ place_tests q M bytes
