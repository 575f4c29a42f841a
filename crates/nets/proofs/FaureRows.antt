-- Faure tables: in coordinate a, row k holds the coefficients of X^(k-1) in the powers of a + X. With the shift E, which drops
-- the first term, E - a takes row 1 to 0 and each later row to the one before it, so its k-th power takes row k to 0.
-- For different a these powers are coprime, and the rows of a coordinate are triangular: so every split passes.
-- Assumes nothing.
use Rattle.std.proofs.Common.{◌≡◌, ℕ, zero, suc, ◌-◌, ◌<◌, ◌≤◌, List, [], ◌∷◌, length, get_or, sym, refl, ap, ◌∙◌, ap₂, mul-one, arith}
use Rattle.base.proofs.FieldAlgebra.{product_zero_right, sum_cancel_left, zero_digit}
use Rattle.base.specs.Fields.{FieldLaws, FieldModel}
use Rattle.base.specs.Independence.{Independent, Passes}
use Rattle.base.specs.Nets.{Split}
use Rattle.base.specs.Tables.{SameTable, TableModel}
use Rattle.tables.proofs.Powers.{a_plus_x_times_at, power_digits}
use Rattle.tables.specs.Columns.{under}
use Rattle.tables.specs.Faure.{faure_table, poly_power}
use Rattle.nets.specs.Zero.{EverySplitPasses}
use Rattle.nets.proofs.AnnihilatedRows.{Annihilated, annihilated_rows_pass}
use Rattle.nets.proofs.Counting.{sum_same, sum_below}
use Rattle.nets.proofs.Operators.{Annihilates, Commute, Operator, power}
use Rattle.nets.proofs.Operators.{higher_power_annihilates, power_commutes, power_degree, powers_commute, powers_coprime}
use Rattle.nets.proofs.SameTables.{same_tables_every_split}
use Rattle.nets.proofs.Sequences.{Digit, Sequence, digit_of_digit, digit_of, in_shift, linear, same_sequence, sequences}
use Rattle.nets.proofs.Sequences.{linear_coprime, linear_value, shifts_commute}
use Rattle.nets.proofs.SplitPlaces.{counts_together}
use Rattle.nets.proofs.Triangular.{triangular_independent}

module _ (F : FieldModel) (laws : FieldLaws F) where
  -- - a x + (a x + y) = y
  negative_cancels : (a x y : ℕ) → a < F.q → x < F.q → y < F.q
      → F.sum (F.product (F.negative a) x) (F.sum (F.product a x) y) ≡ y
  negative_cancels a x y h k l =
      let n = F.negative a in
      let nh = laws.negative_digit a h in
      sym (laws.sum_assoc (F.product n x) (F.product a x) y (laws.product_digit n x nh k) (laws.product_digit a x h k) l)
      ∙ ap (λ z. F.sum z y)
      (ap₂ F.sum (laws.product_comm n x nh k) (laws.product_comm a x h k) ∙ sym (laws.distributes x n a k nh h)
      ∙ ap (F.product x) (laws.sum_comm n a nh h ∙ laws.sum_negative a h) ∙ product_zero_right F laws x k)
      ∙ laws.sum_zero y l

  -- different elements have different negatives
  negative_one_to_one : (a b : ℕ) → a < F.q → b < F.q → F.negative a ≡ F.negative b → a ≡ b
  negative_one_to_one a b h k e =
      let n = F.negative b in
      let nk = laws.negative_digit b k in
      sum_cancel_left F laws n a b nk h k
      (laws.sum_comm n a nk h ∙ ap (F.sum a) (sym e) ∙ laws.sum_negative a h ∙ sym (laws.sum_negative b k) ∙ laws.sum_comm b n k nk)

  -- the negative of an element
  abbrev pub minus : Digit F laws → Digit F laws
  minus a = (F.negative a.0, laws.negative_digit a.0 a.1)

  -- E - a
  abbrev pub shift_less : Digit F laws → Operator (sequences F laws)
  shift_less a = in_shift F laws (linear F laws (minus a))

  -- ---- the rows of a coordinate

  module _ (a : Digit F laws) where
    -- row k, from 0: the coefficients of X^k in the powers of a + X
    abbrev pub faure_row : ℕ → Sequence F laws
    faure_row k = (λ l. get_or (poly_power F (a.0 ∷ 1 ∷ []) l) k 0, λ l. power_digits F laws a.0 a.1 l k)

    -- the term in column l of the row before row k, and 0 where there is none
    abbrev digit_before : ℕ → ℕ → ℕ
    digit_before k l = under (poly_power F (a.0 ∷ 1 ∷ []) l) k

    -- the next term of a row
    next_term : (k l : ℕ) → (faure_row k).0 (suc l) ≡ F.sum (F.product a.0 ((faure_row k).0 l)) (digit_before k l)
    next_term k l = a_plus_x_times_at F laws a.0 a.1 (poly_power F (a.0 ∷ 1 ∷ []) l) (power_digits F laws a.0 a.1 l) k

    -- what E - a does to a row
    shift_less_at : (k l : ℕ) → digit_before k l < F.q → ((shift_less a).act (faure_row k)).0 l ≡ digit_before k l
    shift_less_at k l h =
        linear_value F laws (minus a) (faure_row k) l
        ∙ ap (F.sum (F.product (F.negative a.0) ((faure_row k).0 l))) (next_term k l)
        ∙ negative_cancels a.0 ((faure_row k).0 l) (digit_before k l) a.1 ((faure_row k).1 l) h

    -- E - a takes the first row to 0, and each other row to the one before it
    first_row_annihilated : Annihilates (sequences F laws) (shift_less a) (faure_row 0)
    first_row_annihilated =
        same_sequence F laws ((shift_less a).act (faure_row 0)) (sequences F laws).null (λ l. shift_less_at 0 l (zero_digit F laws))

    row_before : (k : ℕ) → (shift_less a).act (faure_row (suc k)) ≡ faure_row k
    row_before k =
        same_sequence F laws ((shift_less a).act (faure_row (suc k))) (faure_row k) (λ l. shift_less_at (suc k) l ((faure_row k).1 l))

    -- its k-th power takes row k, from 1, to 0
    pub row_annihilated : (k : ℕ) → Annihilates (sequences F laws) (power (sequences F laws) (shift_less a) (suc k)) (faure_row k)
    row_annihilated zero = first_row_annihilated
    row_annihilated (suc k) =
        sym (power_commutes (sequences F laws) (shift_less a) (shift_less a) (λ u. refl) (suc k) (faure_row (suc k)))
        ∙ ap (power (sequences F laws) (shift_less a) (suc k)).act (row_before k) ∙ row_annihilated k

    -- the rows are triangular
    before_diagonal : (k l : ℕ) → l < k → (faure_row k).0 l ≡ 0
    before_diagonal zero l h = elim h [ ]
    before_diagonal (suc k) zero h = refl
    before_diagonal (suc k) (suc l) h =
        next_term (suc k) l
        ∙ ap₂ F.sum
        (ap (F.product a.0) (before_diagonal (suc k) l (omega (arith, h))) ∙ product_zero_right F laws a.0 a.1)
        (before_diagonal k l (omega (arith, h)))
        ∙ laws.sum_zero 0 (zero_digit F laws)

    on_diagonal : (k : ℕ) → (faure_row k).0 k ≡ 1
    on_diagonal zero = refl
    on_diagonal (suc k) =
        next_term (suc k) k
        ∙ ap₂ F.sum
        (ap (F.product a.0) (before_diagonal (suc k) k (omega arith)) ∙ product_zero_right F laws a.0 a.1)
        (on_diagonal k)
        ∙ laws.sum_zero 1 laws.limits.0

    pub rows_independent : (d : ℕ) → Independent F d d (λ k l. (faure_row k).0 l)
    rows_independent d =
        triangular_independent F laws d d (λ k l. (faure_row k).0 l) (omega arith) (λ k l h i. (faure_row k).1 l) (λ k h. on_diagonal k)
        (λ k l h i. before_diagonal k l i)

  -- ---- every split passes

  module _ (M s : ℕ) (few : s ≤ F.q) (m : ℕ) (counts : List ℕ) (split : Split s m counts) where
    -- coordinate i as an element of the field
    abbrev element : ℕ → Digit F laws
    element i = digit_of F laws i

    -- (E - i)^d, for the count d of coordinate i
    abbrev annihilator : ℕ → Operator (sequences F laws)
    annihilator i = power (sequences F laws) (shift_less (element i)) (get_or counts i 0)

    element_is : (i : ℕ) → i < length counts → (element i).0 ≡ i
    element_is i h = digit_of_digit F laws i (omega (arith, h, few, split.0))

    elements_different : (i j : ℕ) → i < length counts → j < length counts → (i ≡ j → ⊥) → (minus (element i)).0 ≡ (minus (element j)).0 → ⊥
    elements_different i j h k different e =
        different
        (sym (element_is i h) ∙ negative_one_to_one (element i).0 (element j).0 (element i).1 (element j).1 e ∙ element_is j k)

    shifts_less_commute : (i j : ℕ) → Commute (sequences F laws) (shift_less (element i)) (shift_less (element j))
    shifts_less_commute i j = shifts_commute F laws (linear F laws (minus (element i))) (linear F laws (minus (element j)))

    degrees_together : sum_below (length counts) (λ i. (annihilator i).degree) ≡ m
    degrees_together =
        sum_same (length counts) (λ i. (annihilator i).degree) (λ i. get_or counts i 0)
        (λ i h. power_degree (sequences F laws) (shift_less (element i)) (get_or counts i 0) ∙ mul-one (get_or counts i 0))
        ∙ counts_together counts ∙ split.1

    faure_annihilated : Annihilated F laws (faure_table F M s) m counts
    faure_annihilated =
        record {
          sequence = λ i. faure_row (element i);
          operator = annihilator;
          begins = λ i k l inside h.
              let e : suc k - 1 ≡ k = omega arith in
              ap₂ (λ a n. get_or (poly_power F (a ∷ 1 ∷ []) l) n 0) (sym (element_is i inside.coordinate)) e;
          annihilated = λ i k inside.
              higher_power_annihilates (sequences F laws) (shift_less (element i)) (suc k) (get_or counts i 0) inside.row
              (faure_row (element i) k) (row_annihilated (element i) k);
          commute = λ i j h k.
              powers_commute (sequences F laws) (shift_less (element i)) (shift_less (element j)) (shifts_less_commute i j)
              (get_or counts i 0) (get_or counts j 0);
          coprime = λ i j h k different.
              powers_coprime (sequences F laws) (shift_less (element i)) (shift_less (element j)) (shifts_less_commute i j)
              (linear_coprime F laws (minus (element i)) (minus (element j)) (elements_different i j h k different))
              (get_or counts i 0) (get_or counts j 0);
          degrees = omega (arith, degrees_together);
          columns = λ i. get_or counts i 0;
          independent = λ i h. rows_independent (element i) (get_or counts i 0);
        }

-- every split of a Faure table passes
pub faure_splits_pass : (F : FieldModel) → FieldLaws F → (M s : ℕ) → s ≤ F.q → (m : ℕ) → (counts : List ℕ) → Split s m counts
    → Passes F (faure_table F M s) m counts
faure_splits_pass F laws M s few m counts split =
    annihilated_rows_pass F laws (faure_table F M s) m counts (faure_annihilated F laws M s few m counts split)

-- and every split of a table with the digits of a Faure table
pub faure_tables_pass : (F : FieldModel) → FieldLaws F → (M s : ℕ) → s ≤ F.q → (T : TableModel) → SameTable T (faure_table F M s)
    → EverySplitPasses F T
faure_tables_pass F laws M s few T same =
    same_tables_every_split F T (faure_table F M s) same
    (λ m h counts split. let all : m - 0 ≡ m = omega arith in faure_splits_pass F laws M s few m counts (split.0, split.1 ∙ all))
