-- Scramblers: what one means, and the laws that it keeps. Assumes nothing.
use Rattle.std.specs.Prelude.{◌≡◌, ℕ, ◌<◌, ◌≤◌, List, length, take}
use Rattle.base.specs.Digits.{AllDigits}
use Rattle.base.specs.Tables.{Limits}

-- a scrambler of words of M digits of s coordinates: from coordinate and word to word
pub record ScramblerModel : Type 0 where
  pub q : ℕ
  pub digits : ℕ
  pub coordinates : ℕ
  pub scramble : ℕ → List ℕ → List ℕ

-- a word of M digits below q
abbrev pub Word : ℕ → ℕ → List ℕ → Type 0
Word q M word = (length word ≡ M) × AllDigits q word

-- the scrambler has a say in a word of a coordinate: the coordinate is one of its own, and the word is one of M digits
abbrev pub Scrambles : ScramblerModel → ℕ → List ℕ → Type 0
Scrambles S j word = (j < S.coordinates) × Word S.q S.digits word

-- the laws of a scrambler. Words of M digits go to words of M digits; two words of one coordinate agree in their first k
-- digits exactly when their results do, for every k from 1 to M; anything else is left as it is.
-- At k = M this says that different words have different results, so a scrambler of zeros is none.
pub record ScramblerLaws (S : ScramblerModel) : Type 0 where
  pub limits : Limits S.q S.digits S.coordinates
  pub words : (j : ℕ) (u : List ℕ) → Scrambles S j u → Word S.q S.digits (S.scramble j u)
  pub prefix : (j k : ℕ) (u v : List ℕ) → 1 ≤ k → k ≤ S.digits → Scrambles S j u → Scrambles S j v
      → take k u ≡ take k v → take k (S.scramble j u) ≡ take k (S.scramble j v)
  pub prefix_back : (j k : ℕ) (u v : List ℕ) → 1 ≤ k → k ≤ S.digits → Scrambles S j u → Scrambles S j v
      → take k (S.scramble j u) ≡ take k (S.scramble j v) → take k u ≡ take k v
  pub outside : (j : ℕ) (u : List ℕ) → (Scrambles S j u → ⊥) → S.scramble j u ≡ u
