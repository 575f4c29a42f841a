-- Columns of coefficients, as the builder of Faure tables keeps them. Assumes nothing.
use Rattle.std.specs.Prelude.{◌≡◌, ℕ, zero, suc, ◌<◌, List, [], ◌∷◌, length, slice_index, slice_index_or}
use Rattle.base.specs.Digits.{AllDigits}
use Rattle.base.specs.Fields.{FieldModel}
use Rattle.tables.specs.Faure.{poly_power}

-- the coefficient below the one at i
abbrev pub under : List ℕ → ℕ → ℕ
under column zero = 0
under column (suc i) = slice_index column i

-- the column holds the first 32 coefficients of (a + X)^l
pub record PowerColumn (F : FieldModel) (a l : ℕ) (column : List ℕ) : Type 0 where
  pub size : length column ≡ 32
  pub digits : AllDigits F.q column
  pub coefficients : (i : ℕ) → i < 32 → slice_index column i ≡ slice_index (poly_power F (a ∷ 1 ∷ []) l) i

-- the columns of the first n coordinates: in coordinate a, those of the powers of a + X
abbrev pub PowerColumns : FieldModel → ℕ → List (List (List ℕ)) → Type 0
PowerColumns F n columns = (a l : ℕ) → a < n → l < 32 → PowerColumn F a l (slice_index_or (slice_index_or columns a []) l [])
