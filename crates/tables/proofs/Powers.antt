-- Powers of a + X over a field, coefficient by coefficient: those of (a + X) p are a times each of p, plus the one below it.
-- So the columns that are made in this way, each from the one before it, hold the entries of the Faure table.
-- Assumes nothing.
use Rattle.std.proofs.Common.{◌≡◌, ℕ, zero, suc, ◌+◌, ◌-◌, ◌<◌, ◌≤◌, ◌≢◌, List, [], ◌∷◌, map, length, get_or, set, replicate, sym, refl, ap, ◌∙◌, ap₂, add-one, arith, below_more}
use Rattle.std.proofs.lemmas.List.{get_or-set_same, get_or-set_other}
use Rattle.base.proofs.FieldAlgebra.{product_zero_right, sum_zero_right, zero_digit}
use Rattle.base.specs.Fields.{FieldModel, FieldLaws}
use Rattle.base.specs.Tables.{Inside, SameTable, TableModel}
use Rattle.tables.specs.Columns.{PowerColumn, PowerColumns, under}
use Rattle.tables.specs.Faure.{faure_table, poly_power, poly_product, poly_sum}

-- ---- the coefficients of 1

zeros_hold_zero : (n i : ℕ) → get_or {A = ℕ} (replicate n 0) i 0 ≡ 0
zeros_hold_zero zero i = refl
zeros_hold_zero (suc n) zero = refl
zeros_hold_zero (suc n) (suc i) = zeros_hold_zero n i

pub one_then_zeros : (n i : ℕ) → get_or {A = ℕ} (1 ∷ replicate n 0) i 0 ≡ get_or (1 ∷ []) i 0
one_then_zeros n zero = refl
one_then_zeros n (suc i) = zeros_hold_zero n i

-- the first n coefficients of (a + X) p, from the column of p
abbrev pub NextUpTo : FieldModel → ℕ → List ℕ → ℕ → List ℕ → Type 0
NextUpTo F a column n next = (i : ℕ) → i < n → get_or next i 0 ≡ F.sum (F.product a (get_or column i 0)) (under column i)

-- all coefficients are digits, past the end too
abbrev Digits : FieldModel → List ℕ → Type 0
Digits F p = (i : ℕ) → get_or p i 0 < F.q

module _ (F : FieldModel) (laws : FieldLaws F) where
  -- ---- the coefficients of (a + X) p

  poly_sum_at : (p r : List ℕ) (i : ℕ) → Digits F p → Digits F r → get_or (poly_sum F p r) i 0 ≡ F.sum (get_or p i 0) (get_or r i 0)
  poly_sum_at [] r i hp hr = sym (laws.sum_zero (get_or r i 0) (hr i))
  poly_sum_at (x ∷ p) [] i hp hr = sym (sum_zero_right F laws (get_or (x ∷ p) i 0) (hp i))
  poly_sum_at (x ∷ p) (y ∷ r) zero hp hr = refl
  poly_sum_at (x ∷ p) (y ∷ r) (suc i) hp hr = poly_sum_at p r i (λ k. hp (suc k)) (λ k. hr (suc k))

  multiple_at : (a : ℕ) → a < F.q → (p : List ℕ) (i : ℕ) → get_or (map (F.product a) p) i 0 ≡ F.product a (get_or p i 0)
  multiple_at a h [] i = sym (product_zero_right F laws a h)
  multiple_at a h (x ∷ p) zero = refl
  multiple_at a h (x ∷ p) (suc i) = multiple_at a h p i

  multiple_digits : (a : ℕ) → a < F.q → (p : List ℕ) → Digits F p → Digits F (map (F.product a) p)
  multiple_digits a h p hp i = rw (multiple_at a h p i) (laws.product_digit a (get_or p i 0) h (hp i))

  one_digits : Digits F (1 ∷ [])
  one_digits zero = laws.limits.0
  one_digits (suc i) = (zero_digit F laws)

  under_digit : (p : List ℕ) → Digits F p → (i : ℕ) → under p i < F.q
  under_digit p hp zero = (zero_digit F laws)
  under_digit p hp (suc i) = hp i

  one_times_at : (p : List ℕ) → Digits F p → (i : ℕ) → get_or (poly_product F (1 ∷ []) p) i 0 ≡ get_or p i 0
  one_times_at p hp i =
      let one = laws.limits.0 in
      poly_sum_at (map (F.product 1) p) (replicate 1 0) i (multiple_digits 1 one p hp) (λ k. rw (zeros_hold_zero 1 k) (zero_digit F laws))
      ∙ ap₂ F.sum (multiple_at 1 one p i ∙ laws.product_one (get_or p i 0) (hp i)) (zeros_hold_zero 1 i)
      ∙ sum_zero_right F laws (get_or p i 0) (hp i)

  x_times_at : (p : List ℕ) → Digits F p → (i : ℕ) → get_or (0 ∷ poly_product F (1 ∷ []) p) i 0 ≡ under p i
  x_times_at p hp zero = refl
  x_times_at p hp (suc i) = one_times_at p hp i

  pub a_plus_x_times_at : (a : ℕ) → a < F.q → (p : List ℕ) → Digits F p → (i : ℕ)
      → get_or (poly_product F (a ∷ 1 ∷ []) p) i 0 ≡ F.sum (F.product a (get_or p i 0)) (under p i)
  a_plus_x_times_at a h p hp i =
      poly_sum_at (map (F.product a) p) (0 ∷ poly_product F (1 ∷ []) p) i (multiple_digits a h p hp)
      (λ k. rw (x_times_at p hp k) (under_digit p hp k))
      ∙ ap₂ F.sum (multiple_at a h p i) (x_times_at p hp i)

  pub power_digits : (a : ℕ) → a < F.q → (l : ℕ) → Digits F (poly_power F (a ∷ 1 ∷ []) l)
  power_digits a h zero i = one_digits i
  power_digits a h (suc l) i =
      let p = poly_power F (a ∷ 1 ∷ []) l in
      let hp = power_digits a h l in
      rw (a_plus_x_times_at a h p hp i)
      (laws.sum_digit (F.product a (get_or p i 0)) (under p i) (laws.product_digit a (get_or p i 0) h (hp i)) (under_digit p hp i))

  -- ---- columns

  module _ (a : ℕ) (h : a < F.q) where
    column_from : (l : ℕ) (column : List ℕ) → length column ≡ 32
        → ((i : ℕ) → i < 32 → get_or column i 0 ≡ get_or (poly_power F (a ∷ 1 ∷ []) l) i 0) → PowerColumn F a l column
    column_from l column size are =
        record {
          size = size;
          digits = λ i low. let e = are i (omega arith) in rw e (power_digits a h l i);
          coefficients = are;
        }

    under_power : (l : ℕ) (column : List ℕ) → PowerColumn F a l column → (i : ℕ) → i < 32
        → under column i ≡ under (poly_power F (a ∷ 1 ∷ []) l) i
    under_power l column before zero low = refl
    under_power l column before (suc i) low = before.coefficients i (omega arith)

    pub column_of_one : (column : List ℕ) → length column ≡ 32 → ((i : ℕ) → get_or column i 0 ≡ get_or (1 ∷ []) i 0) → PowerColumn F a 0 column
    column_of_one column size are = column_from 0 column size (λ i _. are i)

    pub next_column : (l : ℕ) (column next : List ℕ) → length next ≡ 32 → NextUpTo F a column 32 next → PowerColumn F a l column
        → PowerColumn F a (l + 1) next
    next_column l column next size are before =
        rw (add-one l)
        (column_from (suc l) next size
        (λ i low.
        are i low ∙ ap₂ F.sum (ap (F.product a) (before.coefficients i low)) (under_power l column before i low)
        ∙ sym (a_plus_x_times_at a h (poly_power F (a ∷ 1 ∷ []) l) (power_digits a h l) i)))

-- one column more
pub columns_more : (F : FieldModel) (a l : ℕ) (columns : List (List ℕ)) (column : List ℕ) → l < length columns → PowerColumn F a l column
    → ((i : ℕ) → i < l → PowerColumn F a i (get_or columns i [])) → (i : ℕ) → i < l + 1 → PowerColumn F a i (get_or (set columns l column) i [])
columns_more F a l columns column room is before =
    below_more (λ i. PowerColumn F a i (get_or (set columns l column) i [])) l
    (λ i low. let ne : i ≢ l = omega arith in rw get_or-set_other (before i low)) (rw get_or-set_same is)

-- one coordinate more
pub coordinates_more : (F : FieldModel) (a : ℕ) (all : List (List (List ℕ))) (columns : List (List ℕ)) → a < length all
    → ((l : ℕ) → l < 32 → PowerColumn F a l (get_or columns l [])) → PowerColumns F a all → PowerColumns F (a + 1) (set all a columns)
coordinates_more F a all columns room are before i l low =
    below_more (λ i. (l : ℕ) → l < 32 → PowerColumn F i l (get_or (get_or (set all a columns) i []) l [])) a
    (λ i below. let ne : i ≢ a = omega arith in rw get_or-set_other (λ l. before i l below)) (rw get_or-set_same are) i low l

-- ---- the table of the columns

pub table_of_columns : (F : FieldModel) (M s : ℕ) (columns : List (List (List ℕ))) (t : TableModel) → M ≤ 32 → PowerColumns F s columns
    → t.q ≡ F.q → t.digits ≡ M → t.coordinates ≡ s
    → ((j k l : ℕ) → Inside M s j k l → t.entry j k l ≡ get_or (get_or (get_or columns j []) l []) (k - 1) 0) → SameTable t (faure_table F M s)
table_of_columns F M s columns t narrow are q digits coordinates entries =
    record {
      q = q;
      digits = digits;
      coordinates = coordinates;
      entry = λ j k l inside.
          let within : Inside M s j k l = rw (digits, coordinates) at inside in
          entries j k l within ∙ (are j l within.coordinate (omega (arith, within.column))).coefficients (k - 1) (omega (arith, within.row_least, within.row_most));
    }
