-- Two scramblers, one after the other. Assumes nothing.
use Rattle.std.specs.Prelude.{Bool, true, if◌then◌else◌, ◌&&◌, List, [], ◌∷◌, ◌==◌, ◌≢◌}
use Rattle.base.specs.Faults.{refusal}
use Rattle.base.specs.Scramblers.{ScramblerModel}
use Rattle.base.specs.Tests.{Test, test}

-- two scramblers have the same q, M and s
abbrev pub same_shape : ScramblerModel → ScramblerModel → Bool
same_shape A B = A.q == B.q && (A.digits == B.digits && A.coordinates == B.coordinates)

-- the second works on the result of the first; where their numbers differ, which no chain that was made has, the first alone
abbrev pub chain_scrambler : ScramblerModel → ScramblerModel → ScramblerModel
chain_scrambler A B =
    record {
      q = A.q;
      digits = A.digits;
      coordinates = A.coordinates;
      scramble = λ j word. if same_shape A B then B.scramble j (A.scramble j word) else A.scramble j word;
    }

-- the test of a chain: its parts fit together
abbrev pub chain_tests : ScramblerModel → ScramblerModel → List Test
chain_tests A B = test (same_shape A B ≢ true) (refusal 9 6 255 0) ∷ []
