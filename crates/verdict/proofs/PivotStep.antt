-- One step of elimination. A row with a pivot, and the rows after it with the pivot's column cleared: the rows are independent
-- exactly if the cleared rows after the first are. And rows of which the first is 0 are dependent. Assumes nothing.
use Rattle.std.proofs.Common.{◌≡◌, ℕ, zero, suc, ◌<◌, sym, ap, ◌∙◌, subst, ap₂, arith}
use Rattle.base.proofs.FieldAlgebra.{product_cancel_left, product_zero_left, product_zero_right, sum_cancel_left, sum_over_digit, sum_over_same, zero_digit}
use Rattle.base.specs.Fields.{FieldLaws, FieldModel, sum_over}
use Rattle.base.specs.Independence.{Independent}
use Rattle.nets.specs.Rows.{Rows}
use Rattle.nets.proofs.FieldSums.{sum_over_first, sum_over_none}
use Rattle.nets.proofs.Systems.{combination_added}

-- a first coefficient, and after it others
abbrev pub after : ℕ → (ℕ → ℕ) → ℕ → ℕ
after a c zero = a
after a c (suc k) = c k

-- rows of which the first is 0 are dependent
pub zero_row_dependent : (F : FieldModel) → FieldLaws F → (n m : ℕ) (B : ℕ → ℕ → ℕ) → Rows F (suc n) m B → ((l : ℕ) → l < m → B 0 l ≡ 0)
    → Independent F (suc n) m B → ⊥
zero_row_dependent F laws n m B rows zeros free =
    let one : 1 < F.q = omega (arith, laws.limits.0) in
    let c : ℕ → ℕ = after 1 (λ k. 0) in
    let small : (i : ℕ) → i < suc n → c i < F.q = elim [ zero ↦ λ h. one | suc k ↦ λ h. zero_digit F laws ] in
    let no : ◌≡◌ {A = ℕ} 1 0 = free c small
    (λ l h.
    sum_over_first F laws n (λ i. F.product (c i) (B i l)) (λ i k. laws.product_digit (c i) (B i l) (small i k) (rows i l k h))
    ∙ ap₂ F.sum (ap (F.product 1) (zeros l h) ∙ product_zero_right F laws 1 one)
    (sum_over_same F n (λ k. F.product 0 (B (suc k) l)) (λ k. 0)
    (λ k g. product_zero_left F laws (B (suc k) l) (rows (suc k) l (omega (arith, g)) h))
    ∙ sum_over_none F laws n)
    ∙ laws.sum_zero 0 (zero_digit F laws)) 0 (omega arith) in
    omega (arith, no)

module _ (F : FieldModel) (laws : FieldLaws F) (n m p inverse : ℕ) (B C : ℕ → ℕ → ℕ) (rows : Rows F (suc n) m B) (inside : p < m)
    (small : inverse < F.q) (inverts : F.product (B 0 p) inverse ≡ 1)
    (cleared : (k l : ℕ) → k < n → l < m
    → C k l ≡ F.sum (B (suc k) l) (F.product (F.negative (F.product (B (suc k) p) inverse)) (B 0 l))) where
  -- the multiple of the first row that is added to row k + 1
  abbrev factor : ℕ → ℕ
  factor k = F.negative (F.product (B (suc k) p) inverse)

  first_digit : (l : ℕ) → l < m → B 0 l < F.q
  first_digit l h = rows 0 l (omega arith) h

  later_digit : (k l : ℕ) → k < n → l < m → B (suc k) l < F.q
  later_digit k l g h = rows (suc k) l (omega (arith, g)) h

  quotient_digit : (k : ℕ) → k < n → F.product (B (suc k) p) inverse < F.q
  quotient_digit k g = laws.product_digit (B (suc k) p) inverse (later_digit k p g inside) small

  factor_digit : (k : ℕ) → k < n → factor k < F.q
  factor_digit k g = laws.negative_digit (F.product (B (suc k) p) inverse) (quotient_digit k g)

  cleared_digits : Rows F n m C
  cleared_digits k l g h =
      subst (λ x. x < F.q) (sym (cleared k l g h))
      (laws.sum_digit (B (suc k) l) (F.product (factor k) (B 0 l)) (later_digit k l g h)
      (laws.product_digit (factor k) (B 0 l) (factor_digit k g) (first_digit l h)))

  -- the pivot's digit is not 0
  pivot_not_zero : B 0 p ≡ 0 → ⊥
  pivot_not_zero none =
      let no : ◌≡◌ {A = ℕ} 1 0 = sym inverts ∙ ap (λ x. F.product x inverse) none ∙ product_zero_left F laws inverse small in
      omega (arith, no)

  -- the pivot's column is cleared: b + (-(b i)) a = 0 where a i = 1. Times i it is b i + (-(b i)) = 0
  pivot_cleared : (k : ℕ) → k < n → C k p ≡ 0
  pivot_cleared k g =
      let b = B (suc k) p in
      let a = B 0 p in
      let bd = later_digit k p g inside in
      let ad = first_digit p inside in
      let f = factor k in
      let fd = factor_digit k g in
      let nonzero : inverse ≡ 0 → ⊥ = λ none.
      let no : ◌≡◌ {A = ℕ} 1 0 = sym inverts ∙ ap (F.product a) none ∙ product_zero_right F laws a ad in omega (arith, no) in
      let fa = laws.product_digit f a fd ad in
      let whole = laws.sum_digit b (F.product f a) bd fa in
      cleared k p g inside
      ∙ product_cancel_left F laws inverse (F.sum b (F.product f a)) 0 small nonzero whole (zero_digit F laws)
      (laws.distributes inverse b (F.product f a) small bd fa
      ∙ ap₂ F.sum (laws.product_comm inverse b small bd)
      (laws.product_comm inverse (F.product f a) small fa ∙ laws.product_assoc f a inverse fd ad small ∙ ap (F.product f) inverts
      ∙ laws.product_comm f 1 fd (omega (arith, laws.limits.0)) ∙ laws.product_one f fd)
      ∙ laws.sum_negative (F.product b inverse) (quotient_digit k g)
      ∙ sym (product_zero_right F laws inverse small))

  -- the first row's share in a combination of the cleared rows
  abbrev share : (ℕ → ℕ) → ℕ
  share c = sum_over F n (λ k. F.product (c k) (factor k))

  module _ (c : ℕ → ℕ) (digits : (k : ℕ) → k < n → c k < F.q) where
    share_digit : share c < F.q
    share_digit =
        sum_over_digit F laws n (λ k. F.product (c k) (factor k))
        (λ k g. laws.product_digit (c k) (factor k) (digits k g) (factor_digit k g))

    later_sum : (l : ℕ) → l < m → sum_over F n (λ k. F.product (c k) (B (suc k) l)) < F.q
    later_sum l h =
        sum_over_digit F laws n (λ k. F.product (c k) (B (suc k) l))
        (λ k g. laws.product_digit (c k) (B (suc k) l) (digits k g) (later_digit k l g h))

    -- a combination of the cleared rows is one of the rows, the first with its share
    combination : (l : ℕ) → l < m → sum_over F n (λ k. F.product (c k) (C k l))
        ≡ F.sum (F.product (share c) (B 0 l)) (sum_over F n (λ k. F.product (c k) (B (suc k) l)))
    combination l h =
        sum_over_same F n (λ k. F.product (c k) (C k l)) (λ k. F.product (c k) (F.sum (B (suc k) l) (F.product (factor k) (B 0 l))))
        (λ k g. ap (F.product (c k)) (cleared k l g h))
        ∙ combination_added F laws n (B 0 l) c (λ k. B (suc k) l) factor (first_digit l h) digits (λ k g. later_digit k l g h) factor_digit

  independent_cleared : Independent F (suc n) m B → Independent F n m C
  independent_cleared free c digits vanish i h =
      let e = after (share c) c in
      let small' : (k : ℕ) → k < suc n → e k < F.q = elim [ zero ↦ λ g. share_digit c digits | suc k ↦ λ g. digits k (omega (arith, g)) ] in
      free e small'
      (λ l g.
      sum_over_first F laws n (λ k. F.product (e k) (B k l)) (λ k j. laws.product_digit (e k) (B k l) (small' k j) (rows k l j g))
      ∙ sym (combination c digits l g) ∙ vanish l g)
      (suc i) (omega (arith, h))

  cleared_independent : Independent F n m C → Independent F (suc n) m B
  cleared_independent free c digits vanish = each
    where
      later : (k : ℕ) → k < n → c (suc k) < F.q
      later k g = digits (suc k) (omega (arith, g))

      first : c 0 < F.q
      first = digits 0 (omega arith)

      whole : (l : ℕ) → l < m → F.sum (F.product (c 0) (B 0 l)) (sum_over F n (λ k. F.product (c (suc k)) (B (suc k) l))) ≡ 0
      whole l g =
          sym (sum_over_first F laws n (λ k. F.product (c k) (B k l)) (λ k j. laws.product_digit (c k) (B k l) (digits k j) (rows k l j g)))
          ∙ vanish l g

      -- in the pivot's column the cleared rows have 0, so the first row's share is its own coefficient
      at_pivot : F.product (share (λ k. c (suc k))) (B 0 p) ≡ F.product (c 0) (B 0 p)
      at_pivot =
          let a = laws.product_digit (share (λ k. c (suc k))) (B 0 p) (share_digit (λ k. c (suc k)) later) (first_digit p inside) in
          let b = laws.product_digit (c 0) (B 0 p) first (first_digit p inside) in
          let r = later_sum (λ k. c (suc k)) later p inside in
          sum_cancel_left F laws (sum_over F n (λ k. F.product (c (suc k)) (B (suc k) p)))
          (F.product (share (λ k. c (suc k))) (B 0 p)) (F.product (c 0) (B 0 p)) r a b
          (laws.sum_comm (sum_over F n (λ k. F.product (c (suc k)) (B (suc k) p))) (F.product (share (λ k. c (suc k))) (B 0 p)) r a
          ∙ sym (combination (λ k. c (suc k)) later p inside)
          ∙ sum_over_same F n (λ k. F.product (c (suc k)) (C k p)) (λ k. 0)
          (λ k g. ap (F.product (c (suc k))) (pivot_cleared k g) ∙ product_zero_right F laws (c (suc k)) (later k g))
          ∙ sum_over_none F laws n
          ∙ sym (whole p inside)
          ∙ laws.sum_comm (F.product (c 0) (B 0 p)) (sum_over F n (λ k. F.product (c (suc k)) (B (suc k) p))) b r)

      share_is : share (λ k. c (suc k)) ≡ c 0
      share_is =
          let s = share_digit (λ k. c (suc k)) later in
          product_cancel_left F laws (B 0 p) (share (λ k. c (suc k))) (c 0) (first_digit p inside) pivot_not_zero s first
          (laws.product_comm (B 0 p) (share (λ k. c (suc k))) (first_digit p inside) s
          ∙ at_pivot ∙ laws.product_comm (c 0) (B 0 p) first (first_digit p inside))

      laters : (k : ℕ) → k < n → c (suc k) ≡ 0
      laters =
          free (λ k. c (suc k)) later
          (λ l g. combination (λ k. c (suc k)) later l g
          ∙ ap (λ x. F.sum (F.product x (B 0 l)) (sum_over F n (λ k. F.product (c (suc k)) (B (suc k) l)))) share_is ∙ whole l g)

      each : (i : ℕ) → i < suc n → c i ≡ 0
      each zero h =
          sym share_is
          ∙ sum_over_same F n (λ k. F.product (c (suc k)) (factor k)) (λ k. 0)
          (λ k g. ap (λ x. F.product x (factor k)) (laters k g) ∙ product_zero_left F laws (factor k) (factor_digit k g))
          ∙ sum_over_none F laws n
      each (suc i) h = laters i (omega (arith, h))

  -- the step as a whole: the cleared rows hold digits, and are independent exactly if the rows are
  pub pivot_step : Rows F n m C × (Independent F (suc n) m B → Independent F n m C) × (Independent F n m C → Independent F (suc n) m B)
  pivot_step = (cleared_digits, independent_cleared, cleared_independent)
