-- Elimination row by row: the rows from one on are independent exactly if all rows as they were passed are. Each step keeps that,
-- at the end no row is left, and a row that is 0 settles it. Assumes nothing.
use Rattle.std.proofs.Common.{◌≡◌, ℕ, suc, ◌+◌, ◌-◌, ◌<◌, ◌≤◌, true, false, List, [], get_or, Decides, sym, refl, ap, ◌∙◌, subst, subst₂, arith}
use mathlib.Core.Bool.{false≢true}
use Rattle.base.specs.Fields.{FieldLaws, FieldModel}
use Rattle.base.specs.Independence.{Independent}
use Rattle.nets.proofs.SameTables.{same_rows_independent}
use Rattle.nets.specs.Rows.{Rows}
use Rattle.verdict.specs.Matrices.{ClearedBelow, DigitRows, PivotAt, digits_of}
use Rattle.verdict.specs.declared.matrix.Pivot.{Pivot}
use Rattle.verdict.proofs.PivotStep.{pivot_step, zero_row_dependent}

-- the rows from row a on
abbrev pub rows_from : ℕ → List (List ℕ) → ℕ → ℕ → ℕ
rows_from a rows i l = digits_of rows (a + i) l

-- of n rows those before row a are done with: the rows from it on hold digits, and are independent exactly if the rows as passed are
pub record Reduced (F : FieldModel) (n m a : ℕ) (passed rows : List (List ℕ)) : Type 0 where
  pub digits : DigitRows F.q a n m rows
  pub kept : Independent F n m (digits_of passed) → Independent F (n - a) m (rows_from a rows)
  pub tells : Independent F (n - a) m (rows_from a rows) → Independent F n m (digits_of passed)

-- before the first step
pub reduced_none : (F : FieldModel) (n m : ℕ) (rows : List (List ℕ)) → DigitRows F.q 0 n m rows → Reduced F n m 0 rows rows
reduced_none F n m rows digits =
    let all : n ≡ n - 0 = omega arith in
    let same : (i : ℕ) → 0 + i ≡ i = λ i. omega arith in
    record {
      digits = digits;
      kept = λ free.
          subst (λ D. Independent F D m (rows_from 0 rows)) all
          (same_rows_independent F n m (rows_from 0 rows) (digits_of rows) (λ i l h g. ap (λ k. digits_of rows k l) (same i)) free);
      tells = λ free.
          same_rows_independent F n m (digits_of rows) (rows_from 0 rows) (λ i l h g. sym (ap (λ k. digits_of rows k l) (same i)))
          (subst (λ D. Independent F D m (rows_from 0 rows)) (sym all) free);
    }

-- after the last step no row is left, so the rows are independent
pub reduced_all : (F : FieldModel) (n m a : ℕ) (passed rows : List (List ℕ)) → Reduced F n m a passed rows → n ≤ a
    → Decides true (Independent F n m (digits_of passed))
reduced_all F n m a passed rows reduced h =
    (λ _. reduced.tells (λ c digits vanish i low. absurd (omega (arith, low, h))), λ _. refl)

module _ (F : FieldModel) (laws : FieldLaws F) (n m a : ℕ) (passed rows : List (List ℕ)) (reduced : Reduced F n m a passed rows)
    (some : a < n) where
  one_more : n - a ≡ suc (n - (a + 1))
  one_more = omega arith

  rows_digits : Rows F (suc (n - (a + 1))) m (rows_from a rows)
  rows_digits i l h g = reduced.digits (a + i) l (omega arith) (omega (arith, h)) g

  -- where the next row is 0, the rows are dependent
  pub zero_row_settles : ((l : ℕ) → l < m → digits_of rows a l ≡ 0) → Decides false (Independent F n m (digits_of passed))
  zero_row_settles zeros =
      let first : a + 0 ≡ a = omega arith in (
        λ f. absurd (false≢true f),
        λ free. absurd (zero_row_dependent F laws (n - (a + 1)) m (rows_from a rows) rows_digits
            (λ l h. ap (λ k. digits_of rows k l) first ∙ zeros l h)
            (subst (λ D. Independent F D m (rows_from a rows)) one_more (reduced.kept free))),
      )

  module _ (p : Pivot) (after : List (List ℕ)) (pivot : PivotAt F m (get_or rows a []) p) (cleared : ClearedBelow F m a p n rows after) where
    inverts : F.product (rows_from a rows 0 p.column) p.inverse ≡ 1
    inverts =
        let first : a + 0 ≡ a = omega arith in
        ap (λ k. F.product (digits_of rows k p.column) p.inverse) first ∙ pivot.inverse

    clears : (k l : ℕ) → k < n - (a + 1) → l < m → rows_from (a + 1) after k l
        ≡ F.sum (rows_from a rows (suc k) l)
        (F.product (F.negative (F.product (rows_from a rows (suc k) p.column) p.inverse)) (rows_from a rows 0 l))
    clears k l h g =
        let first : a ≡ a + 0 = omega arith in
        let next : a + 1 + k ≡ a + suc k = omega arith in
        subst₂ (λ x y. digits_of after (a + 1 + k) l
        ≡ F.sum (digits_of rows x l) (F.product (F.negative (F.product (digits_of rows x p.column) p.inverse)) (digits_of rows y l)))
        next first (cleared.later (a + 1 + k) l (omega arith) (omega (arith, h)) g)

    -- where it has a pivot, and the rows after it are cleared, it is done with
    pub reduced_more : Reduced F n m (a + 1) passed after
    reduced_more =
        let step = pivot_step F laws (n - (a + 1)) m p.column p.inverse (rows_from a rows) (rows_from (a + 1) after) rows_digits
        pivot.inside pivot.small inverts clears in
        record {
          digits = λ i l low high h.
              let place : a + 1 + (i - (a + 1)) ≡ i = omega (arith, low) in
              subst (λ k. digits_of after k l < F.q) place (step.0 (i - (a + 1)) l (omega (arith, low, high)) h);
          kept = λ free. step.1 (subst (λ D. Independent F D m (rows_from a rows)) one_more (reduced.kept free));
          tells = λ free. reduced.tells (subst (λ D. Independent F D m (rows_from a rows)) (sym one_more) (step.2 free));
        }
