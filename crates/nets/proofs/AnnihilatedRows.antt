-- Splits that pass by operators: the rows of each coordinate are independent, and go on as sequences that one operator takes to
-- 0; the operators of the coordinates commute, are coprime, and have degrees of at most m together. Assumes nothing.
use Rattle.std.proofs.Common.{◌≡◌, ℕ, suc, ◌+◌, ◌<◌, ◌≤◌, List, length, get_or, sym, ap, ◌∙◌, subst, ap₂, arith}
use Rattle.base.proofs.FieldAlgebra.{sum_over_same}
use Rattle.base.specs.Fields.{FieldLaws, FieldModel, sum_over}
use Rattle.base.specs.Independence.{Independent, Passes, split_row}
use Rattle.base.specs.Nets.{total}
use Rattle.base.specs.Tables.{TableModel}
use Rattle.nets.proofs.Counting.{sum_below}
use Rattle.nets.proofs.Operators.{Annihilates, Commute, Coprime, Operator, annihilated_elements_null, annihilates_combination, combination, sum_of}
use Rattle.nets.proofs.Sequences.{Digit, Sequence, digit_of_digit, digit_of, sequences, sum_of_at}
use Rattle.nets.proofs.SplitPlaces.{InSplit, every_place, place_below, row_at_place, rows_before, sum_over_split}

-- The rows of a split as the beginnings of sequences, each taken to 0 by the operator of its coordinate. The operators commute,
-- are coprime, and have degrees of at most m together; the sequences of each coordinate are independent in their first columns
pub record Annihilated (F : FieldModel) (laws : FieldLaws F) (T : TableModel) (m : ℕ) (counts : List ℕ) : Type 0 where
  pub sequence : ℕ → ℕ → Sequence F laws
  pub operator : ℕ → Operator (sequences F laws)
  pub begins : (i k l : ℕ) → InSplit counts i k → l < m → T.entry i (suc k) l ≡ (sequence i k).0 l
  pub annihilated : (i k : ℕ) → InSplit counts i k → Annihilates (sequences F laws) (operator i) (sequence i k)
  pub commute : (i j : ℕ) → i < length counts → j < length counts → Commute (sequences F laws) (operator i) (operator j)
  pub coprime : (i j : ℕ) → i < length counts → j < length counts → (i ≡ j → ⊥) → Coprime (sequences F laws) (operator i) (operator j)
  pub degrees : sum_below (length counts) (λ i. (operator i).degree) ≤ m
  pub columns : ℕ → ℕ
  pub independent : (i : ℕ) → i < length counts → Independent F (get_or counts i 0) (columns i) (λ k l. (sequence i k).0 l)

module _ (F : FieldModel) (laws : FieldLaws F) (T : TableModel) (m : ℕ) (counts : List ℕ) (rows : Annihilated F laws T m counts) where
  -- a row of the split is the beginning of its sequence
  row_is : (i k l : ℕ) → InSplit counts i k → l < m → split_row T 0 counts (rows_before counts i + k) l ≡ (rows.sequence i k).0 l
  row_is i k l inside h =
      let e : 0 + i ≡ i = omega arith in
      ap (λ row. row l) (row_at_place T counts 0 i k inside) ∙ ap (λ n. T.entry n (suc k) l) e ∙ rows.begins i k l inside h

  row_digit : (l : ℕ) → l < m → (n : ℕ) → n < total counts → split_row T 0 counts n l < F.q
  row_digit l h =
      every_place counts (λ n. split_row T 0 counts n l < F.q)
      (λ i k inside. subst (λ x. x < F.q) (sym (row_is i k l inside h)) ((rows.sequence i k).1 l))

  module _ (c : ℕ → ℕ) (digits : (n : ℕ) → n < total counts → c n < F.q) where
    -- the coefficient of row k of coordinate i
    abbrev coefficient : ℕ → ℕ → Digit F laws
    coefficient i k = digit_of F laws (c (rows_before counts i + k))

    coefficient_is : (i k : ℕ) → InSplit counts i k → (coefficient i k).0 ≡ c (rows_before counts i + k)
    coefficient_is i k inside = digit_of_digit F laws (c (rows_before counts i + k)) (digits (rows_before counts i + k) (place_below counts i k inside))

    -- the part of a combination that coordinate i has
    abbrev part : ℕ → Sequence F laws
    part i = combination (sequences F laws) (get_or counts i 0) (coefficient i) (rows.sequence i)

    -- and its terms
    part_at : (i l : ℕ) → (part i).0 l ≡ sum_over F (get_or counts i 0) (λ k. F.product (coefficient i k).0 ((rows.sequence i k).0 l))
    part_at i l = sum_of_at F laws (get_or counts i 0) (λ k. (sequences F laws).times (coefficient i k) (rows.sequence i k)) l

    -- the parts add up to the combination
    parts_together : (l : ℕ) → l < m
        → (sum_of (sequences F laws) (length counts) part).0 l ≡ sum_over F (total counts) (λ n. F.product (c n) (split_row T 0 counts n l))
    parts_together l h =
        let term : ℕ → ℕ = λ n. F.product (c n) (split_row T 0 counts n l) in
        sum_of_at F laws (length counts) part l
        ∙ sum_over_same F (length counts) (λ i. (part i).0 l) (λ i. sum_over F (get_or counts i 0) (λ k. term (rows_before counts i + k)))
        (λ i inside.
        part_at i l
        ∙ sum_over_same F (get_or counts i 0) (λ k. F.product (coefficient i k).0 ((rows.sequence i k).0 l)) (λ k. term (rows_before counts i + k))
        (λ k low.
        let place : InSplit counts i k = record { coordinate = inside; row = low } in
        ap₂ F.product (coefficient_is i k place) (sym (row_is i k l place h))))
        ∙ sym (sum_over_split F laws counts term (λ n low. laws.product_digit (c n) (split_row T 0 counts n l) (digits n low) (row_digit l h n low)))

    -- if the combination vanishes, so does each part
    part_vanishes : ((l : ℕ) → l < m → sum_over F (total counts) (λ n. F.product (c n) (split_row T 0 counts n l)) ≡ 0)
        → (i : ℕ) → i < length counts → part i ≡ (sequences F laws).null
    part_vanishes vanish =
        annihilated_elements_null (sequences F laws) (length counts) rows.operator part
        (λ i h. annihilates_combination (sequences F laws) (rows.operator i) (get_or counts i 0) (coefficient i) (rows.sequence i)
        (λ k low. rows.annihilated i k (record { coordinate = h; row = low })))
        rows.commute rows.coprime
        (λ l h. let low : l < m = omega (arith, h, rows.degrees) in parts_together l low ∙ vanish l low)

  -- such a split passes
  pub annihilated_rows_pass : Passes F T m counts
  annihilated_rows_pass c digits vanish =
      every_place counts (λ n. c n ≡ 0)
      (λ i k inside.
      sym (coefficient_is c digits i k inside)
      ∙ rows.independent i inside.coordinate (λ k. (coefficient c digits i k).0) (λ k low. (coefficient c digits i k).1)
      (λ l h. sym (part_at c digits i l) ∙ ap (λ w. w.0 l) (part_vanishes c digits vanish i inside.coordinate))
      k inside.row)
