-- The numerators that are written from present digits. Assumes nothing.
use Rattle.std.specs.Prelude.{◌≡◌, ℕ, ◌^◌, ◌≤◌, List, length, take, slice_index_or}
use Rattle.base.specs.Digits.{AllDigits}
use Rattle.base.specs.Points.{numerator}
use Rattle.base.specs.Scramblers.{ScramblerModel}
use Rattle.run.specs.Present.{no_digits}
use Rattle.run.specs.declared.coordinate.Coordinate.{Coordinate}

-- a word of digits whose number has at most 32 bits
abbrev pub Readable : ℕ → List ℕ → Type 0
Readable q word = AllDigits q word × (q ^ length word ≤ 2 ^ 32)

-- x is the numerator of coordinate j: it has 32 present digits, and x is the number of the first M, scrambled, if they are readable
pub record Writes (S : ScramblerModel) (q M : ℕ) (coordinates : List Coordinate) (j x : ℕ) : Type 0 where
  pub size : length (slice_index_or coordinates j no_digits).digits ≡ 32
  pub value : Readable q (S.scramble j (take M (slice_index_or coordinates j no_digits).digits))
      → x ≡ numerator q (S.scramble j (take M (slice_index_or coordinates j no_digits).digits))
