-- The present digits of a run's coordinates. Assumes nothing.
use Rattle.std.specs.Prelude.{◌≡◌, ℕ, suc, ◌^◌, ◌<◌, ◌≤◌, not, List, [], ◌==◌, slice_index, slice_index_or}
use Rattle.std.specs.List.{range_with_len}
use Rattle.base.specs.Fields.{FieldModel, sum_over}
use Rattle.base.specs.Nets.{count}
use Rattle.base.specs.Orders.{digit}
use Rattle.base.specs.Tables.{TableModel}
use Rattle.run.specs.declared.coordinate.Coordinate.{Coordinate}

-- a record with no digits, for a coordinate that there is none of
abbrev pub no_digits : Coordinate
no_digits = record { digits = [] }

-- the present digit of row k (from 1) of coordinate j
abbrev pub shown : List Coordinate → ℕ → ℕ → ℕ
shown coordinates j k = slice_index (slice_index_or coordinates j no_digits).digits k

-- the coordinates show the rows at some digits of an index: row k + 1 of coordinate j is the field's sum of the table's digits
-- times these
abbrev pub Present : FieldModel → TableModel → (ℕ → ℕ) → List Coordinate → Type 0
Present F T x coordinates =
    (j k : ℕ) → j < T.coordinates → k < T.digits → shown coordinates j k ≡ sum_over F T.digits (λ l. F.product (T.entry j (suc k) l) (x l))

-- the first n coordinates were changed by a multiple of a column, and the others are as they were
pub record Changed (F : FieldModel) (T : TableModel) (l by n : ℕ) (before after : List Coordinate) : Type 0 where
  pub changed : (j k : ℕ) → j < n → k < T.digits → shown after j k ≡ F.sum (shown before j k) (F.product (T.entry j (suc k) l) by)
  pub others : (j k : ℕ) → n ≤ j → shown after j k ≡ shown before j k

-- in how many of their first M digits two indexes differ
abbrev pub changed_digits : ℕ → ℕ → ℕ → ℕ → ℕ
changed_digits q M a b = count (λ l. not (digit q a l == digit q b l)) (range_with_len 0 M)

-- coordinates that show the rows at index a, of a table over the field, were moved to index b: they show the rows there, and
-- `changed` is the number of digits in which the two indexes differ
abbrev pub Moved : FieldModel → TableModel → ℕ → ℕ → List Coordinate → List Coordinate → ℕ → Type 0
Moved F T a b before after changed =
    F.q ≡ T.q → a < T.q ^ T.digits → b < T.q ^ T.digits → Present F T (digit T.q a) before
    → Present F T (digit T.q b) after × (changed ≡ changed_digits T.q T.digits a b)
