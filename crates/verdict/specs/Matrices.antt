-- Rows of digits as they stand in the code, and one step of elimination. Assumes nothing.
use Rattle.std.specs.Prelude.{◌≡◌, ℕ, ◌<◌, ◌≤◌, ◌⊎◌, List, [], slice_index, slice_index_or}
use Rattle.base.specs.Fields.{FieldModel}
use Rattle.base.specs.Independence.{split_row}
use Rattle.base.specs.Tables.{TableModel}
use Rattle.verdict.specs.declared.matrix.Pivot.{Pivot}

-- the digit of row i in column l
abbrev pub digits_of : List (List ℕ) → ℕ → ℕ → ℕ
digits_of rows i l = slice_index (slice_index_or rows i []) l

-- rows a to n - 1 hold digits below q in their first m columns
abbrev pub DigitRows : ℕ → ℕ → ℕ → ℕ → List (List ℕ) → Type 0
DigitRows q a n m rows = (i l : ℕ) → a ≤ i → i < n → l < m → digits_of rows i l < q

-- the first n rows of some counts stand in order, in their first m columns
abbrev pub SplitRows : TableModel → List ℕ → ℕ → ℕ → List (List ℕ) → Type 0
SplitRows T counts m n rows = (i l : ℕ) → i < n → l < m → digits_of rows i l ≡ split_row T 0 counts i l

-- a pivot of a row: one of its first m columns, with the inverse of the digit there
pub record PivotAt (F : FieldModel) (m : ℕ) (row : List ℕ) (p : Pivot) : Type 0 where
  pub inside : p.column < m
  pub small : p.inverse < F.q
  pub inverse : F.product (slice_index row p.column) p.inverse ≡ 1

-- after the column of a row's pivot was cleared in the rows after it, up to row n - 1: to each of them the multiple of that row
-- is added that makes its digit there 0, and the other rows are as they were
pub record ClearedBelow (F : FieldModel) (m own : ℕ) (p : Pivot) (n : ℕ) (before after : List (List ℕ)) : Type 0 where
  pub later : (k l : ℕ) → own < k → k < n → l < m
      → digits_of after k l
      ≡ F.sum (digits_of before k l) (F.product (F.negative (F.product (digits_of before k p.column) p.inverse)) (digits_of before own l))
  pub others : (k : ℕ) → (k ≤ own) ⊎ (n ≤ k) → slice_index_or after k [] ≡ slice_index_or before k []
