-- Bytes that are digits. Assumes nothing.
use Rattle.std.specs.Prelude.{◌≡◌, ℕ, ◌<◌, ◌≤◌, List, [], ◌∷◌, length, slice_index}
use Rattle.base.specs.Faults.{refusal}
use Rattle.base.specs.Tests.{Test, test, in_turn}

-- every byte is below q
abbrev pub AllDigits : ℕ → List ℕ → Type 0
AllDigits q bytes = (i : ℕ) → i < length bytes → slice_index bytes i < q

-- the byte at i is q or more, and none before it is
pub record FirstBad (q : ℕ) (bytes : List ℕ) (i : ℕ) : Type 0 where
  pub within : i < length bytes
  pub bad : q ≤ slice_index bytes i
  pub first : (k : ℕ) → k < i → slice_index bytes k < q

-- the tests of bytes for digits, one after the other: a byte of q or more is refused with its index as place
abbrev pub digit_tests : ℕ → ℕ → List ℕ → List Test
digit_tests q layer bytes = in_turn (λ i. test (q ≤ slice_index bytes i) (refusal 7 layer 255 i) ∷ []) 0 (length bytes)

-- the array begins with the bytes
abbrev pub BeginsWith : List ℕ → List ℕ → Type 0
BeginsWith bytes array = (i : ℕ) → i < length bytes → slice_index array i ≡ slice_index bytes i
