-- From the rows of a split as they stand in the code to the split itself: they hold digits, and what is decided of them is decided
-- of it. Assumes nothing.
use Rattle.std.proofs.Common.{◌≡◌, ℕ, ◌<◌, ◌≤◌, Bool, List, length, Decides, sym, refl, subst, arith}
use Rattle.std.proofs.lemmas.Bool.Decides.{Decides-like}
use Rattle.base.specs.Blocks.{TableOver}
use Rattle.base.specs.Fields.{FieldLaws, FieldModel}
use Rattle.base.specs.Independence.{Independent, Passes, split_row}
use Rattle.base.specs.Nets.{total}
use Rattle.base.specs.Tables.{TableModel}
use Rattle.nets.proofs.BlockNets.{split_rows}
use Rattle.nets.proofs.SameTables.{same_rows_independent}
use Rattle.tables.specs.Places.{place}
use Rattle.tables.specs.Table.{model}
use Rattle.tables.specs.declared.table.Table.{Table}
use Rattle.verdict.specs.Matrices.{DigitRows, SplitRows, digits_of}

-- the digits of a table are below q, so it is a table over any field with its q
pub table_over : (F : FieldModel) → FieldLaws F → (x : Table) → F.q ≡ (model x).q → TableOver F (model x)
table_over F laws x same = record { laws = laws; q = same; digits = λ j k l inside. x.small (place j k l) }

module _ (F : FieldModel) (T : TableModel) (counts : List ℕ) (m n : ℕ) (rows : List (List ℕ)) (all : n ≡ total counts)
    (filled : SplitRows T counts m (total counts) rows) where
  pub split_digits : TableOver F T → length counts ≡ T.coordinates → total counts ≤ m → m ≤ T.digits → DigitRows F.q 0 n m rows
  split_digits over size few within i l low high column =
      let row : i < total counts = omega arith in
      subst (λ d. d < F.q) (sym (filled i l row column)) (split_rows F T over m (total counts) within few counts (size, refl) i l row column)

  pub split_decides : (r : Bool) → Decides r (Independent F n m (digits_of rows)) → Decides r (Passes F T m counts)
  split_decides r told =
      Decides-like r
      (same_rows_independent F (total counts) m (split_row T 0 counts) (digits_of rows) (λ i l h g. sym (filled i l h g)))
      (same_rows_independent F (total counts) m (digits_of rows) (split_row T 0 counts) filled)
      (subst (λ n. Decides r (Independent F n m (digits_of rows))) all told)
