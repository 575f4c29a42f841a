-- Points: the digital construction, as one formula over a table, a field, an order and a scrambler. Assumes nothing.
use Rattle.std.specs.Prelude.{ℕ, ◌+◌, ◌*◌, ◌^◌, List, [], ◌∷◌, map, length}
use Rattle.std.specs.List.{range_with_len}
use Rattle.base.specs.Fields.{FieldModel, sum_over}
use Rattle.base.specs.Orders.{OrderModel, digit}
use Rattle.base.specs.Scramblers.{ScramblerModel}
use Rattle.base.specs.Tables.{TableModel}

-- a word read as a number in base q, first digit highest
abbrev pub numerator : ℕ → List ℕ → ℕ
numerator q [] = 0
numerator q (x ∷ xs) = x * q ^ length xs + numerator q xs

-- row k of coordinate j at an index: the field's sum over the columns l of the table's digit times the index's digit at q^l
abbrev pub row : FieldModel → TableModel → ℕ → ℕ → ℕ → ℕ
row F T j i k = sum_over F T.digits (λ l. F.product (T.entry j k l) (digit T.q i l))

-- the word of coordinate j at an index: its rows 1 to M
abbrev pub word : FieldModel → TableModel → ℕ → ℕ → List ℕ
word F T j i = map (row F T j i) (range_with_len 1 T.digits)

-- the point of a position: the numerators of the scrambled words at the order's index
abbrev pub point : FieldModel → OrderModel → ScramblerModel → TableModel → ℕ → List ℕ
point F O S T n = map (λ j. numerator T.q (S.scramble j (word F T j (O.index n)))) (range_with_len 0 T.coordinates)
