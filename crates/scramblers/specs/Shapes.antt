-- The numbers of a scrambler, and the words that it scrambles. Assumes nothing.
use Rattle.std.specs.Prelude.{ℕ, Bool, true, ◌&&◌, List, [], ◌∷◌, length, ◌==◌, nat_lt}
use Rattle.base.specs.Shapes.{limit_tests}
use Rattle.base.specs.Tests.{Test}

-- q, M and s are within their limits
abbrev pub shape_tests : ℕ → ℕ → ℕ → List Test
shape_tests = limit_tests 6

-- each digit of the word is below q
abbrev pub all_below : ℕ → List ℕ → Bool
all_below q [] = true
all_below q (x ∷ xs) = nat_lt x q && all_below q xs

-- the coordinate is below s, and the word has M digits below q
abbrev pub scrambles : ℕ → ℕ → ℕ → ℕ → List ℕ → Bool
scrambles q M s j word = nat_lt j s && (length word == M && all_below q word)
