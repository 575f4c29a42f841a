-- Rows in triangular form, with 1 on the diagonal and 0 before it, are independent: in the first column only the first row has a
-- digit other than 0, so its coefficient is 0, and so it goes on column after column. Assumes nothing.
use Rattle.std.proofs.Common.{◌≡◌, ℕ, zero, suc, ◌<◌, ◌≤◌, sym, ap, ◌∙◌, subst, ap₂, ⊎_elim, arith}
use Rattle.std.proofs.lemmas.Bool.{cases_eq, cases_lt}
use Rattle.base.proofs.FieldAlgebra.{product_zero_left, product_zero_right, sum_over_same, sum_zero_right}
use Rattle.base.specs.Fields.{FieldLaws, FieldModel, sum_over}
use Rattle.base.specs.Independence.{Independent}
use Rattle.nets.specs.Rows.{Rows}
use Rattle.nets.proofs.FieldSums.{sum_over_none}

module _ (F : FieldModel) (laws : FieldLaws F) where
  -- a sum whose terms are 0 but for the one at p
  pub sum_over_one_term : (n p : ℕ) (f : ℕ → ℕ) → p < n → f p < F.q → ((i : ℕ) → i < n → (i ≡ p → ⊥) → f i ≡ 0) → sum_over F n f ≡ f p
  sum_over_one_term zero p f h digit none = elim h [ ]
  sum_over_one_term (suc n) p f h digit none =
      ⊎_elim
      (λ e.
      let zeros : (i : ℕ) → i < n → f i ≡ 0 = λ i l. none i (omega (arith, l)) (λ is. omega (arith, l, is, e)) in
      ap₂ F.sum (sum_over_same F n f (λ i. 0) zeros ∙ sum_over_none F laws n) (ap f (sym e))
      ∙ laws.sum_zero (f p) digit)
      (λ ne.
      ap₂ F.sum (sum_over_one_term n p f (omega (arith, h, ne)) digit (λ i l. none i (omega (arith, l))))
      (none n (omega arith) (λ is. ne (sym is)))
      ∙ sum_zero_right F laws (f p) digit)
      (cases_eq p n)

  -- rows in triangular form are independent
  pub triangular_independent : (D m : ℕ) (A : ℕ → ℕ → ℕ) → D ≤ m → Rows F D m A → ((i : ℕ) → i < D → A i i ≡ 1)
      → ((i l : ℕ) → i < D → l < i → A i l ≡ 0) → Independent F D m A
  triangular_independent D m A fits rows ones zeros c digits vanish = up_to D (omega arith)
    where
      -- column n of the combination is the coefficient of row n, if those before it are 0
      column : (n : ℕ) → n < D → ((i : ℕ) → i < n → c i ≡ 0) → sum_over F D (λ i. F.product (c i) (A i n)) ≡ c n
      column n h before =
          let term : F.product (c n) (A n n) ≡ c n =
          ap (F.product (c n)) (ones n h) ∙ laws.product_comm (c n) 1 (digits n h) laws.limits.0 ∙ laws.product_one (c n) (digits n h) in
          sum_over_one_term D n (λ i. F.product (c i) (A i n)) h (subst (λ x. x < F.q) (sym term) (digits n h))
          (λ i l ne. ⊎_elim
          (λ early. ap (λ x. F.product x (A i n)) (before i early) ∙ product_zero_left F laws (A i n) (rows i n l (omega (arith, h, fits))))
          (λ late. ap (F.product (c i)) (zeros i n l (omega (arith, late, ne))) ∙ product_zero_right F laws (c i) (digits i l))
          (cases_lt i n))
          ∙ term

      -- the first n coefficients are 0
      up_to : (n : ℕ) → n ≤ D → (i : ℕ) → i < n → c i ≡ 0
      up_to zero h i l = elim l [ ]
      up_to (suc n) h i l =
          let before : (i : ℕ) → i < n → c i ≡ 0 = up_to n (omega (arith, h)) in
          ⊎_elim (λ e. ap c e ∙ sym (column n h before) ∙ vanish n (omega (arith, h, fits))) (λ ne. before i (omega (arith, l, ne))) (cases_eq i n)
