-- Digital shifts. Assumes nothing.
use Rattle.std.specs.Prelude.{ℕ, ◌+◌, ◌*◌, ◌%◌, List, [], ◌∷◌, length, ◌≢◌, slice_index}
use Rattle.base.specs.Digits.{digit_tests}
use Rattle.base.specs.Faults.{refusal}
use Rattle.base.specs.Scramblers.{ScramblerModel}
use Rattle.base.specs.Tables.{Limits}
use Rattle.base.specs.Tests.{Test, test}
use Rattle.scramblers.specs.Prefix.{by_prefix, scrambler_of}

-- (a + key digit) mod q, with the key digit of the coordinate's place
abbrev pub shift_rule : ℕ → ℕ → List ℕ → ℕ → List ℕ → ℕ → ℕ
shift_rule q M key j before a = (a + slice_index key (j * M + length before)) % q

-- one key digit is added at each place of each coordinate, modulo q
abbrev pub shift_scrambler : ℕ → ℕ → ℕ → List ℕ → ScramblerModel
shift_scrambler q M s key = scrambler_of q M s (λ j. by_prefix (shift_rule q M key j) [])

-- the tests of a shift: q, M and s, the key's length, then each of its bytes
abbrev pub shift_tests : ℕ → ℕ → ℕ → List ℕ → List Test
shift_tests q M s key =
    test (Limits q M s → ⊥) (refusal 2 6 255 0) ∷ test (length key ≢ s * M) (refusal 3 6 255 0) ∷ digit_tests q 6 key
