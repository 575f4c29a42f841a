-- What a linear scrambler keeps of its matrices. Assumes nothing.
use Rattle.std.specs.Prelude.{◌≡◌, ℕ, ◌<◌, true, false, List, length, slice_index}
use Rattle.scramblers.specs.Linear.{misplaced}

-- every byte may stand where it stands
abbrev pub AllPlaced : ℕ → ℕ → List ℕ → Type 0
AllPlaced q M bytes = (i : ℕ) → i < length bytes → misplaced q M i (slice_index bytes i) ≡ false

-- the byte at i may not stand there, and all before it may
pub record FirstMisplaced (q M : ℕ) (bytes : List ℕ) (i : ℕ) : Type 0 where
  pub within : i < length bytes
  pub bad : misplaced q M i (slice_index bytes i) ≡ true
  pub first : (k : ℕ) → k < i → misplaced q M k (slice_index bytes k) ≡ false
