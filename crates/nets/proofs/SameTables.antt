-- Tables with the same digits pass the same splits. Assumes nothing.
use Rattle.std.proofs.Common.{◌≡◌, ℕ, suc, ◌+◌, ◌-◌, ◌<◌, ◌≤◌, List, length, sym, ap, ◌∙◌, arith}
use Rattle.base.proofs.FieldAlgebra.{sum_over_same}
use Rattle.base.specs.Fields.{FieldModel}
use Rattle.base.specs.Independence.{Independent, Passes, split_row}
use Rattle.base.specs.Nets.{Split, total}
use Rattle.base.specs.Tables.{SameTable, TableModel}
use Rattle.nets.specs.Zero.{EverySplitPasses}
use Rattle.nets.proofs.SplitPlaces.{every_place, place_below, row_at_place}

-- rows with the same digits in the first m columns are independent together
pub same_rows_independent : (F : FieldModel) (D m : ℕ) (A B : ℕ → ℕ → ℕ) → ((i l : ℕ) → i < D → l < m → A i l ≡ B i l)
    → Independent F D m B → Independent F D m A
same_rows_independent F D m A B same independent c digits vanish =
    independent c digits
    (λ l h. sum_over_same F D (λ i. F.product (c i) (B i l)) (λ i. F.product (c i) (A i l))
    (λ i k. ap (F.product (c i)) (sym (same i l k h))) ∙ vanish l h)

-- the rows of a split are the same in two tables with the same digits
pub same_split_rows : (a b : TableModel) → SameTable a b → (counts : List ℕ) → length counts ≡ a.coordinates → total counts ≤ a.digits
    → (n l : ℕ) → n < total counts → l < a.digits → split_row a 0 counts n l ≡ split_row b 0 counts n l
same_split_rows a b same counts all fits n l low h =
    every_place counts (λ n. split_row a 0 counts n l ≡ split_row b 0 counts n l)
    (λ i k inside.
    ap (λ row. row l) (row_at_place a counts 0 i k inside)
    ∙ same.entry (0 + i) (suc k) l
    (record {
      coordinate = omega (arith, inside.coordinate, all);
      row_least = omega arith;
      row_most = omega (arith, place_below counts i k inside, fits);
      column = h;
    })
    ∙ sym (ap (λ row. row l) (row_at_place b counts 0 i k inside)))
    n low

-- a split that a table passes is passed by any table with the same digits, if neither m nor the split reaches beyond them
pub same_tables_pass : (F : FieldModel) (a b : TableModel) → SameTable a b → (m d : ℕ) (counts : List ℕ) → m ≤ a.digits → d ≤ a.digits
    → Split a.coordinates d counts → Passes F b m counts → Passes F a m counts
same_tables_pass F a b same m d counts h k split =
    same_rows_independent F (total counts) m (split_row a 0 counts) (split_row b 0 counts)
    (λ n l low column. same_split_rows a b same counts split.0 (omega (arith, k, split.1)) n l low (omega (arith, h, column)))

-- so every split of one passes if every split of the other does
pub same_tables_every_split : (F : FieldModel) (a b : TableModel) → SameTable a b → EverySplitPasses F b → EverySplitPasses F a
same_tables_every_split F a b same every m h counts split =
    same_tables_pass F a b same m (m - 0) counts h (omega (arith, h)) split
    (every m (omega (arith, h, same.digits)) counts (split.0 ∙ same.coordinates, split.1))
