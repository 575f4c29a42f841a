-- The leading digits of words, before and after scrambling. Assumes nothing.
use Rattle.std.specs.Prelude.{◌≡◌, ℕ, ◌<◌, ◌≤◌, List, take}
use Rattle.base.specs.Scramblers.{ScramblerLaws, ScramblerModel, Scrambles, Word}

-- a word of coordinate j begins with the k digits u exactly if its result begins with the k digits w
pub record Matched (S : ScramblerModel) (j k : ℕ) (u w : List ℕ) : Type 0 where
  pub forth : (x : List ℕ) → Scrambles S j x → take k x ≡ u → take k (S.scramble j x) ≡ w
  pub back : (x : List ℕ) → Scrambles S j x → take k (S.scramble j x) ≡ w → take k x ≡ u

-- in every lawful scrambler, on each number k of leading digits, each k digits of a result come from exactly one k digits of
-- a word, and each k digits of a word go to exactly one k digits of a result
abbrev pub ScramblersPermuteCells : Type 0
ScramblersPermuteCells =
    (S : ScramblerModel) → ScramblerLaws S → (j k : ℕ) → j < S.coordinates → k ≤ S.digits
    → ((w : List ℕ) → Word S.q k w → (u : List ℕ) × Word S.q k u × Matched S j k u w)
    × ((u : List ℕ) → Word S.q k u → (w : List ℕ) × Word S.q k w × Matched S j k u w)
