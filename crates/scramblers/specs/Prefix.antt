-- Scrambling digit by digit, each from the digits read before it. Assumes nothing.
use Rattle.std.specs.Prelude.{ℕ, if◌then◌else◌, List, [], ◌∷◌, ◌++◌}
use Rattle.base.specs.Scramblers.{ScramblerModel}
use Rattle.scramblers.specs.Shapes.{scrambles}

-- each digit by a rule of the digits read before it
abbrev pub by_prefix : (List ℕ → ℕ → ℕ) → List ℕ → List ℕ → List ℕ
by_prefix rule before [] = []
by_prefix rule before (a ∷ rest) = rule before a ∷ by_prefix rule (before ++ a ∷ []) rest

-- the scrambler that does f to the words that it has a say in, and leaves the others
abbrev pub scrambler_of : ℕ → ℕ → ℕ → (ℕ → List ℕ → List ℕ) → ScramblerModel
scrambler_of q M s f =
    record { q = q; digits = M; coordinates = s; scramble = λ j word. if scrambles q M s j word then f j word else word }
