-- Systems of equations, one column after the other: where every row has 0 in the first column, that unknown is free; otherwise
-- a pivot row fixes it, and the other rows, less multiples of the pivot row, are a system in the other unknowns.
-- Assumes nothing.
use Rattle.std.proofs.Common.{◌≡◌, ℕ, zero, suc, ◌+◌, ◌-◌, ◌*◌, ◌/◌, ◌^◌, ◌<◌, ◌≤◌, Bool, true, false, cond, ◌&&◌, eqb, ltb, ◌⊎◌, sym, refl, ap, ◌∙◌, subst, ap₂, inl, inr, ⊎_elim, mod-lt, pow-suc, arith}
use native.Mathlib.Nat.{pow-zero}
use Rattle.std.proofs.lemmas.Bool.{and_from, and_parts, cases_Bool, cases_eq, cases_lt, cond-false, cond-true, eq-eqb, eqb-true, false≢true, lt-ltb, le-ltb, ne_eqb}
use Rattle.base.proofs.FieldAlgebra.{product_cancel_left, product_zero_left, product_zero_right, sum_cancel_left, sum_over_digit, sum_over_same, sum_zero_right, zero_digit}
use Rattle.base.specs.Fields.{FieldLaws, FieldModel, sum_over}
use Rattle.base.specs.Independence.{Independent}
use Rattle.nets.specs.Rows.{Rows, all_below, left_side, solves}
use Rattle.base.specs.Orders.{digit}
use Rattle.nets.proofs.Counting.{sum_in_parts, sum_of_equals, sum_of_multiples, sum_of_one, sum_of_zeros, sum_same, sum_below}
use Rattle.nets.proofs.FieldSums.{sum_over_first, sum_over_multiples, sum_over_none, sum_over_sums}
use Rattle.nets.proofs.Numbers.{higher_digit, lowest_digit}

-- ---- all below, and a search below

pub all_passes : (n : ℕ) (P : ℕ → Bool) → all_below n P ≡ true → (i : ℕ) → i < n → P i ≡ true
all_passes zero P all i h = elim h [ ]
all_passes (suc n) P all i h =
    let parts = and_parts (all_below n P) (P n) all in
    ⊎_elim (λ e. subst (λ k. P k ≡ true) (sym e) parts.1) (λ ne. all_passes n P parts.0 i (omega (arith, h, ne))) (cases_eq i n)

pub passes_all : (n : ℕ) (P : ℕ → Bool) → ((i : ℕ) → i < n → P i ≡ true) → all_below n P ≡ true
passes_all zero P each = refl
passes_all (suc n) P each = and_from (all_below n P) (P n) (passes_all n P (λ i h. each i (omega (arith, h)))) (each n (omega arith))

pub all_same : (n : ℕ) (P Q : ℕ → Bool) → ((i : ℕ) → i < n → P i ≡ Q i) → all_below n P ≡ all_below n Q
all_same zero P Q same = refl
all_same (suc n) P Q same = ap₂ ◌&&◌ (all_same n P Q (λ i h. same i (omega (arith, h)))) (same n (omega arith))

pub is_false : (b : Bool) → (b ≡ true → ⊥) → b ≡ false
is_false b not = ⊎_elim (λ e. let no = not e in elim no [ ]) (λ e. e) (cases_Bool b)

-- below n, f is 0 everywhere or other than 0 somewhere
pub zero_or_not : (n : ℕ) (f : ℕ → ℕ) → ((i : ℕ) → i < n → f i ≡ 0) ⊎ ((i : ℕ) × (i < n) × (f i ≡ 0 → ⊥))
zero_or_not zero f = inl (λ i h. elim h [ ])
zero_or_not (suc n) f =
    ⊎_elim
    (λ zeros.
    ⊎_elim
    (λ e. inl (λ i h. ⊎_elim (λ is. ap f is ∙ e) (λ ne. zeros i (omega (arith, h, ne))) (cases_eq i n)))
    (λ ne. inr (n, omega arith, ne))
    (cases_eq (f n) 0))
    (λ found. inr (found.0, omega (arith, found.1), found.2))
    (zero_or_not n f)

-- the rows without their first column
abbrev pub tails : (ℕ → ℕ → ℕ) → ℕ → ℕ → ℕ
tails A i l = A i (suc l)

-- ---- leaving one out

-- the numbers but p, in order
abbrev pub skip : ℕ → ℕ → ℕ
skip p i = cond (ltb i p) i (suc i)

pub skip_before : (p i : ℕ) → i < p → skip p i ≡ i
skip_before p i h = cond-true (ltb i p) i (suc i) (lt-ltb i p h)

pub skip_after : (p i : ℕ) → p ≤ i → skip p i ≡ suc i
skip_after p i h = cond-false (ltb i p) i (suc i) (le-ltb i p h)

-- the number of a row among the others
abbrev pub unskip : ℕ → ℕ → ℕ
unskip p k = cond (ltb k p) k (k - 1)

unskip_skip : (p i : ℕ) → unskip p (skip p i) ≡ i
unskip_skip p i =
    ⊎_elim (λ h. ap (unskip p) (skip_before p i h) ∙ cond-true (ltb i p) i (i - 1) (lt-ltb i p h))
    (λ h. ap (unskip p) (skip_after p i h) ∙ cond-false (ltb (suc i) p) (suc i) (suc i - 1) (le-ltb (suc i) p (omega (arith, h))) ∙ omega arith)
    (cases_lt i p)

pub skip_not : (p i : ℕ) → skip p i ≡ p → ⊥
skip_not p i e =
    ⊎_elim (λ h. omega (arith, h, e, skip_before p i h)) (λ h. omega (arith, h, e, skip_after p i h)) (cases_lt i p)

skip_found : (D p k : ℕ) → p < suc D → k < suc D → (k ≡ p → ⊥) → (i : ℕ) × (i < D) × (skip p i ≡ k)
skip_found D p k here h ne =
    ⊎_elim (λ l. (k, omega (arith, l, here), skip_before p k l))
    (λ l. (k - 1, omega (arith, l, h, ne), skip_after p (k - 1) (omega (arith, l, ne)) ∙ omega (arith, l, ne)))
    (cases_lt k p)

module _ (F : FieldModel) (laws : FieldLaws F) where
  pub skipped_below : (n p i : ℕ) → i < n → skip p i < suc n
  skipped_below n p i h =
      ⊎_elim (λ e. subst (λ k. k < suc n) (sym (skip_before p i e)) (omega (arith, h)))
      (λ e. subst (λ k. k < suc n) (sym (skip_after p i e)) (omega (arith, h))) (cases_lt i p)

  without_last : (n : ℕ) (f : ℕ → ℕ) → ((i : ℕ) → i < suc n → f i < F.q)
      → sum_over F (suc n) f ≡ F.sum (f n) (sum_over F n (λ i. f (skip n i)))
  without_last n f digits =
      let first = sum_over_digit F laws n f (λ i h. digits i (omega (arith, h))) in
      laws.sum_comm (sum_over F n f) (f n) first (digits n (omega arith))
      ∙ ap (F.sum (f n)) (sum_over_same F n f (λ i. f (skip n i)) (λ i h. ap f (sym (skip_before n i h))))

  -- a sum with the term at p taken out
  pub sum_over_without : (n p : ℕ) (f : ℕ → ℕ) → p < suc n → ((i : ℕ) → i < suc n → f i < F.q)
      → sum_over F (suc n) f ≡ F.sum (f p) (sum_over F n (λ i. f (skip p i)))
  sum_over_without zero p f h digits =
      subst (λ k. sum_over F 1 f ≡ F.sum (f k) 0) (omega (arith, h)) (without_last 0 f digits)
  sum_over_without (suc n) p f h digits =
      ⊎_elim
      (λ e. subst (λ k. sum_over F (suc (suc n)) f ≡ F.sum (f k) (sum_over F (suc n) (λ i. f (skip k i)))) (sym e) (without_last (suc n) f digits))
      (λ ne.
      let early : p < suc n = omega (arith, h, ne) in
      let rest = sum_over_digit F laws n (λ i. f (skip p i)) (λ i l. digits (skip p i) (omega (arith, skipped_below n p i l))) in
      ap (λ x. F.sum x (f (suc n))) (sum_over_without n p f early (λ i l. digits i (omega (arith, l))))
      ∙ laws.sum_assoc (f p) (sum_over F n (λ i. f (skip p i))) (f (suc n)) (digits p h) rest (digits (suc n) (omega arith))
      ∙ ap (λ x. F.sum (f p) (F.sum (sum_over F n (λ i. f (skip p i))) (f x))) (sym (skip_after p n (omega (arith, early)))))
      (cases_eq p (suc n))

  -- ---- the first column

  pub digit_below : (n l : ℕ) → digit F.q n l < F.q
  digit_below n l = mod-lt (n / F.q ^ l) (zero_digit F laws)

  -- a left side in the unknowns v, and after it the digits of n
  pub left_side_split : (m : ℕ) (row : ℕ → ℕ) (n v : ℕ) → v < F.q → ((l : ℕ) → l < suc m → row l < F.q)
      → left_side F (suc m) row (digit F.q (n * F.q + v)) ≡ F.sum (F.product (row 0) v) (left_side F m (λ l. row (suc l)) (digit F.q n))
  left_side_split m row n v h digits =
      sum_over_first F laws m (λ l. F.product (row l) (digit F.q (n * F.q + v) l))
      (λ l k. laws.product_digit (row l) (digit F.q (n * F.q + v) l) (digits l k) (digit_below (n * F.q + v) l))
      ∙ ap₂ F.sum (ap (F.product (row 0)) (lowest_digit F.q n v h))
      (sum_over_same F m (λ l. F.product (row (suc l)) (digit F.q (n * F.q + v) (suc l))) (λ l. F.product (row (suc l)) (digit F.q n l))
      (λ l k. ap (F.product (row (suc l))) (higher_digit F.q n v l h)))

  pub left_side_digit : (m : ℕ) (row x : ℕ → ℕ) → ((l : ℕ) → l < m → row l < F.q) → ((l : ℕ) → l < m → x l < F.q) → left_side F m row x < F.q
  left_side_digit m row x digits unknowns =
      sum_over_digit F laws m (λ l. F.product (row l) (x l)) (λ l h. laws.product_digit (row l) (x l) (digits l h) (unknowns l h))

  -- where the row begins with 0, the first unknown has no say
  pub left_side_free : (m : ℕ) (row : ℕ → ℕ) (n v : ℕ) → v < F.q → ((l : ℕ) → l < suc m → row l < F.q) → row 0 ≡ 0
      → left_side F (suc m) row (digit F.q (n * F.q + v)) ≡ left_side F m (λ l. row (suc l)) (digit F.q n)
  left_side_free m row n v h digits none =
      left_side_split m row n v h digits
      ∙ ap (λ x. F.sum x (left_side F m (λ l. row (suc l)) (digit F.q n))) (ap (λ x. F.product x v) none ∙ product_zero_left F laws v h)
      ∙ laws.sum_zero (left_side F m (λ l. row (suc l)) (digit F.q n))
      (left_side_digit m (λ l. row (suc l)) (digit F.q n) (λ l k. digits (suc l) (omega (arith, k))) (λ l k. digit_below n l))

  -- ---- counting solutions

  -- how many solutions, as a sum over the numbers below q^m
  abbrev pub solved : ℕ → ℕ → (ℕ → ℕ → ℕ) → (ℕ → ℕ) → ℕ → ℕ
  solved D m A y n = cond (solves F D m A y (digit F.q n)) 1 0

  pub solutions_by_column : (D m : ℕ) (A : ℕ → ℕ → ℕ) (y : ℕ → ℕ)
      → sum_below (F.q ^ suc m) (solved D (suc m) A y)
      ≡ sum_below (F.q ^ m) (λ n. sum_below F.q (λ v. solved D (suc m) A y (n * F.q + v)))
  solutions_by_column D m A y =
      ap (λ k. sum_below k (solved D (suc m) A y)) (pow-suc F.q m) ∙ sum_in_parts (F.q ^ m) F.q (solved D (suc m) A y)

  pub free_column : (D m : ℕ) (A : ℕ → ℕ → ℕ) (y : ℕ → ℕ) → Rows F D (suc m) A → ((i : ℕ) → i < D → A i 0 ≡ 0)
      → sum_below (F.q ^ suc m) (solved D (suc m) A y) ≡ sum_below (F.q ^ m) (solved D m (tails A) y) * F.q
  free_column D m A y rows zeros =
      solutions_by_column D m A y
      ∙ sum_same (F.q ^ m) (λ n. sum_below F.q (λ v. solved D (suc m) A y (n * F.q + v))) (λ n. solved D m (tails A) y n * F.q)
      (λ n h. sum_same F.q (λ v. solved D (suc m) A y (n * F.q + v)) (λ v. solved D m (tails A) y n)
      (λ v k. ap (λ b. cond b 1 0) (all_same D (λ i. eqb (left_side F (suc m) (A i) (digit F.q (n * F.q + v))) (y i))
      (λ i. eqb (left_side F m (tails A i) (digit F.q n)) (y i))
      (λ i l. ap (λ x. eqb x (y i)) (left_side_free m (A i) n v k (λ c j. rows i c l j) (zeros i l)))))
      ∙ sum_of_equals F.q (solved D m (tails A) y n))
      ∙ sum_of_multiples (F.q ^ m) F.q (solved D m (tails A) y)

  -- ---- rows with a multiple of another row added

  left_side_added : (m h : ℕ) (r w x : ℕ → ℕ) → h < F.q → ((l : ℕ) → l < m → r l < F.q) → ((l : ℕ) → l < m → w l < F.q)
      → ((l : ℕ) → l < m → x l < F.q)
      → left_side F m (λ l. F.sum (r l) (F.product h (w l))) x ≡ F.sum (left_side F m r x) (F.product h (left_side F m w x))
  left_side_added m h r w x hd rd wd xd =
      sum_over_same F m (λ l. F.product (F.sum (r l) (F.product h (w l))) (x l))
      (λ l. F.sum (F.product (r l) (x l)) (F.product h (F.product (w l) (x l))))
      (λ l k.
      let hw = laws.product_digit h (w l) hd (wd l k) in
      laws.product_comm (F.sum (r l) (F.product h (w l))) (x l) (laws.sum_digit (r l) (F.product h (w l)) (rd l k) hw) (xd l k)
      ∙ laws.distributes (x l) (r l) (F.product h (w l)) (xd l k) (rd l k) hw
      ∙ ap₂ F.sum (laws.product_comm (x l) (r l) (xd l k) (rd l k))
      (laws.product_comm (x l) (F.product h (w l)) (xd l k) hw ∙ laws.product_assoc h (w l) (x l) hd (wd l k) (xd l k)))
      ∙ sum_over_sums F laws m (λ l. F.product (r l) (x l)) (λ l. F.product h (F.product (w l) (x l)))
      (λ l k. laws.product_digit (r l) (x l) (rd l k) (xd l k))
      (λ l k. laws.product_digit h (F.product (w l) (x l)) hd (laws.product_digit (w l) (x l) (wd l k) (xd l k)))
      ∙ ap (F.sum (left_side F m r x)) (sum_over_multiples F laws m h (λ l. F.product (w l) (x l)) hd (λ l k. laws.product_digit (w l) (x l) (wd l k) (xd l k)))

  -- a combination of such rows, at one column with the entries a i and w
  pub combination_added : (D w : ℕ) (c a h : ℕ → ℕ) → w < F.q → ((i : ℕ) → i < D → c i < F.q) → ((i : ℕ) → i < D → a i < F.q)
      → ((i : ℕ) → i < D → h i < F.q)
      → sum_over F D (λ i. F.product (c i) (F.sum (a i) (F.product (h i) w)))
      ≡ F.sum (F.product (sum_over F D (λ i. F.product (c i) (h i))) w) (sum_over F D (λ i. F.product (c i) (a i)))
  combination_added D w c a h wd cd ad hd =
      let ch : (i : ℕ) → i < D → F.product (c i) (h i) < F.q = λ i k. laws.product_digit (c i) (h i) (cd i k) (hd i k) in
      let ca : (i : ℕ) → i < D → F.product (c i) (a i) < F.q = λ i k. laws.product_digit (c i) (a i) (cd i k) (ad i k) in
      let total = sum_over_digit F laws D (λ i. F.product (c i) (h i)) ch in
      sum_over_same F D (λ i. F.product (c i) (F.sum (a i) (F.product (h i) w)))
      (λ i. F.sum (F.product w (F.product (c i) (h i))) (F.product (c i) (a i)))
      (λ i k.
      let hw = laws.product_digit (h i) w (hd i k) wd in
      laws.distributes (c i) (a i) (F.product (h i) w) (cd i k) (ad i k) hw
      ∙ laws.sum_comm (F.product (c i) (a i)) (F.product (c i) (F.product (h i) w)) (ca i k) (laws.product_digit (c i) (F.product (h i) w) (cd i k) hw)
      ∙ ap (λ z. F.sum z (F.product (c i) (a i)))
      (sym (laws.product_assoc (c i) (h i) w (cd i k) (hd i k) wd) ∙ laws.product_comm (F.product (c i) (h i)) w (ch i k) wd))
      ∙ sum_over_sums F laws D (λ i. F.product w (F.product (c i) (h i))) (λ i. F.product (c i) (a i))
      (λ i k. laws.product_digit w (F.product (c i) (h i)) wd (ch i k)) ca
      ∙ ap (λ z. F.sum z (sum_over F D (λ i. F.product (c i) (a i))))
      (sum_over_multiples F laws D w (λ i. F.product (c i) (h i)) wd ch ∙ laws.product_comm w (sum_over F D (λ i. F.product (c i) (h i))) wd total)

module _ (F : FieldModel) (laws : FieldLaws F) (D m p : ℕ) (A : ℕ → ℕ → ℕ) (rows : Rows F (suc D) (suc m) A) (here : p < suc D)
    (pivot : A p 0 ≡ 0 → ⊥) where
  pub head_digit : A p 0 < F.q
  head_digit = rows p 0 here (omega arith)

  abbrev pub inverse : ℕ
  inverse = (laws.inverse_is (A p 0) head_digit pivot).0

  inverse_digit : inverse < F.q
  inverse_digit = (laws.inverse_is (A p 0) head_digit pivot).2

  inverse_back : F.product inverse (A p 0) ≡ 1
  inverse_back = laws.product_comm inverse (A p 0) inverse_digit head_digit ∙ (laws.inverse_is (A p 0) head_digit pivot).3

  -- the multiple of the pivot row that clears the first column of another row
  abbrev pub factor : ℕ → ℕ
  factor i = F.product (F.negative (A (skip p i) 0)) inverse

  other_row : (i l : ℕ) → i < D → l < suc m → A (skip p i) l < F.q
  other_row i l h k = rows (skip p i) l (skipped_below F laws D p i h) k

  factor_digit : (i : ℕ) → i < D → factor i < F.q
  factor_digit i h =
      laws.product_digit (F.negative (A (skip p i) 0)) inverse (laws.negative_digit (A (skip p i) 0) (other_row i 0 h (omega arith))) inverse_digit

  -- the other rows, with their first column cleared
  abbrev pub reduced : ℕ → ℕ → ℕ
  reduced i l = F.sum (A (skip p i) l) (F.product (factor i) (A p l))

  reduced_digit : (i l : ℕ) → i < D → l < suc m → reduced i l < F.q
  reduced_digit i l h k =
      laws.sum_digit (A (skip p i) l) (F.product (factor i) (A p l)) (other_row i l h k)
      (laws.product_digit (factor i) (A p l) (factor_digit i h) (rows p l here k))

  reduced_head : (i : ℕ) → i < D → reduced i 0 ≡ 0
  reduced_head i h =
      let a = other_row i 0 h (omega arith) in
      let n = laws.negative_digit (A (skip p i) 0) a in
      ap (F.sum (A (skip p i) 0))
      (laws.product_assoc (F.negative (A (skip p i) 0)) inverse (A p 0) n inverse_digit head_digit
      ∙ ap (F.product (F.negative (A (skip p i) 0))) inverse_back
      ∙ laws.product_comm (F.negative (A (skip p i) 0)) 1 n (omega (arith, laws.limits.0))
      ∙ laws.product_one (F.negative (A (skip p i) 0)) n)
      ∙ laws.sum_negative (A (skip p i) 0) a

  -- ---- the reduced rows are independent

  abbrev pub coefficients : (ℕ → ℕ) → ℕ → ℕ
  coefficients c k = cond (eqb k p) (sum_over F D (λ i. F.product (c i) (factor i))) (c (unskip p k))

  coefficient_pivot : (c : ℕ → ℕ) → coefficients c p ≡ sum_over F D (λ i. F.product (c i) (factor i))
  coefficient_pivot c = cond-true (eqb p p) (sum_over F D (λ i. F.product (c i) (factor i))) (c (unskip p p)) (eq-eqb p p refl)

  coefficient_other : (c : ℕ → ℕ) (i : ℕ) → coefficients c (skip p i) ≡ c i
  coefficient_other c i =
      cond-false (eqb (skip p i) p) (sum_over F D (λ i. F.product (c i) (factor i))) (c (unskip p (skip p i))) (ne_eqb (skip p i) p (skip_not p i))
      ∙ ap c (unskip_skip p i)

  coefficient_digit : (c : ℕ → ℕ) → ((i : ℕ) → i < D → c i < F.q) → (k : ℕ) → k < suc D → coefficients c k < F.q
  coefficient_digit c cd k h =
      ⊎_elim
      (λ e. subst (λ n. coefficients c n < F.q) (sym e) (subst (λ n. n < F.q) (sym (coefficient_pivot c))
      (sum_over_digit F laws D (λ i. F.product (c i) (factor i)) (λ i l. laws.product_digit (c i) (factor i) (cd i l) (factor_digit i l)))))
      (λ ne.
      let found = skip_found D p k here h ne in
      subst (λ n. coefficients c n < F.q) found.2 (subst (λ n. n < F.q) (sym (coefficient_other c found.0)) (cd found.0 found.1)))
      (cases_eq k p)

  combination_reduced : (c : ℕ → ℕ) → ((i : ℕ) → i < D → c i < F.q) → (l : ℕ) → l < suc m
      → sum_over F (suc D) (λ k. F.product (coefficients c k) (A k l)) ≡ sum_over F D (λ i. F.product (c i) (reduced i l))
  combination_reduced c cd l h =
      sum_over_without F laws D p (λ k. F.product (coefficients c k) (A k l)) here
      (λ k j. laws.product_digit (coefficients c k) (A k l) (coefficient_digit c cd k j) (rows k l j h))
      ∙ ap₂ F.sum (ap (λ x. F.product x (A p l)) (coefficient_pivot c))
      (sum_over_same F D (λ i. F.product (coefficients c (skip p i)) (A (skip p i) l)) (λ i. F.product (c i) (A (skip p i) l))
      (λ i j. ap (λ x. F.product x (A (skip p i) l)) (coefficient_other c i)))
      ∙ sym (combination_added F laws D (A p l) c (λ i. A (skip p i) l) factor (rows p l here h) cd (λ i j. other_row i l j h) factor_digit)

  pub reduced_independent : Independent F (suc D) (suc m) A → Independent F D m (tails reduced)
  reduced_independent free c cd vanish i h =
      sym (coefficient_other c i) ∙ free (coefficients c) (coefficient_digit c cd) columns (skip p i) (skipped_below F laws D p i h)
    where
      columns : (l : ℕ) → l < suc m → sum_over F (suc D) (λ k. F.product (coefficients c k) (A k l)) ≡ 0
      columns zero k =
          combination_reduced c cd 0 k
          ∙ sum_over_same F D (λ i. F.product (c i) (reduced i 0)) (λ i. 0) (λ i j. ap (F.product (c i)) (reduced_head i j) ∙ product_zero_right F laws (c i) (cd i j))
          ∙ sum_over_none F laws D
      columns (suc l) k = combination_reduced c cd (suc l) k ∙ vanish l (omega (arith, k))

  -- ---- the pivot row fixes the first unknown

  module _ (y : ℕ → ℕ) (ys : (i : ℕ) → i < suc D → y i < F.q) (n : ℕ) where
    abbrev pub right : ℕ → ℕ
    right i = F.sum (y (skip p i)) (F.product (factor i) (y p))

    -- the unknowns v, and after it the digits of n
    abbrev pub unknowns : ℕ → ℕ → ℕ
    unknowns v = digit F.q (n * F.q + v)

    -- the pivot row's left side without the first unknown
    abbrev pub rest : ℕ
    rest = left_side F m (λ l. A p (suc l)) (digit F.q n)

    rest_digit : rest < F.q
    rest_digit = left_side_digit F laws m (λ l. A p (suc l)) (digit F.q n) (λ l h. rows p (suc l) here (omega (arith, h))) (λ l h. digit_below F laws n l)

    pivot_left : (v : ℕ) → v < F.q → left_side F (suc m) (A p) (unknowns v) ≡ F.sum (F.product (A p 0) v) rest
    pivot_left v h = left_side_split F laws m (A p) n v h (λ l k. rows p l here k)

    reduced_left : (i v : ℕ) → i < D → v < F.q → left_side F m (tails reduced i) (digit F.q n)
        ≡ F.sum (left_side F (suc m) (A (skip p i)) (unknowns v)) (F.product (factor i) (left_side F (suc m) (A p) (unknowns v)))
    reduced_left i v h k =
        sym (left_side_free F laws m (reduced i) n v k (λ l j. reduced_digit i l h j) (reduced_head i h))
        ∙ left_side_added F laws (suc m) (factor i) (A (skip p i)) (A p) (unknowns v) (factor_digit i h) (λ l j. other_row i l h j)
        (λ l j. rows p l here j) (λ l j. digit_below F laws (n * F.q + v) l)

    -- what the first unknown has to be
    abbrev pub first : ℕ
    first = F.product inverse (F.sum (y p) (F.negative rest))

    difference_digit : F.sum (y p) (F.negative rest) < F.q
    difference_digit = laws.sum_digit (y p) (F.negative rest) (ys p here) (laws.negative_digit rest rest_digit)

    first_digit : first < F.q
    first_digit = laws.product_digit inverse (F.sum (y p) (F.negative rest)) inverse_digit difference_digit

    first_solves : F.sum (F.product (A p 0) first) rest ≡ y p
    first_solves =
        let d = F.sum (y p) (F.negative rest) in
        let nr = laws.negative_digit rest rest_digit in
        ap (λ x. F.sum x rest)
        (sym (laws.product_assoc (A p 0) inverse d head_digit inverse_digit difference_digit)
        ∙ ap (λ x. F.product x d) (laws.product_comm (A p 0) inverse head_digit inverse_digit ∙ inverse_back)
        ∙ laws.product_one d difference_digit)
        ∙ laws.sum_assoc (y p) (F.negative rest) rest (ys p here) nr rest_digit
        ∙ ap (F.sum (y p)) (laws.sum_comm (F.negative rest) rest nr rest_digit ∙ laws.sum_negative rest rest_digit)
        ∙ sum_zero_right F laws (y p) (ys p here)

    first_only : (v : ℕ) → v < F.q → F.sum (F.product (A p 0) v) rest ≡ y p → first ≡ v
    first_only v h e =
        let a = laws.product_digit (A p 0) first head_digit first_digit in
        let b = laws.product_digit (A p 0) v head_digit h in
        product_cancel_left F laws (A p 0) first v head_digit pivot first_digit h
        (sum_cancel_left F laws rest (F.product (A p 0) first) (F.product (A p 0) v) rest_digit a b
        (laws.sum_comm rest (F.product (A p 0) first) rest_digit a ∙ first_solves ∙ sym e ∙ laws.sum_comm (F.product (A p 0) v) rest b rest_digit))

    -- ---- the system and the reduced system

    row_holds : (v : ℕ) → solves F (suc D) (suc m) A y (unknowns v) ≡ true → (i : ℕ) → i < suc D → left_side F (suc m) (A i) (unknowns v) ≡ y i
    row_holds v all i h =
        eqb-true (left_side F (suc m) (A i) (unknowns v)) (y i) (all_passes (suc D) (λ i. eqb (left_side F (suc m) (A i) (unknowns v)) (y i)) all i h)

    reduced_holds : (v : ℕ) → v < F.q → solves F (suc D) (suc m) A y (unknowns v) ≡ true → solves F D m (tails reduced) right (digit F.q n) ≡ true
    reduced_holds v h all =
        passes_all D (λ i. eqb (left_side F m (tails reduced i) (digit F.q n)) (right i))
        (λ i k. eq-eqb (left_side F m (tails reduced i) (digit F.q n)) (right i)
        (reduced_left i v k h
        ∙ ap₂ (λ a b. F.sum a (F.product (factor i) b)) (row_holds v all (skip p i) (skipped_below F laws D p i k)) (row_holds v all p here)))

    first_fixed : (v : ℕ) → v < F.q → solves F (suc D) (suc m) A y (unknowns v) ≡ true → first ≡ v
    first_fixed v h all = first_only v h (sym (pivot_left v h) ∙ row_holds v all p here)

    whole_holds : solves F D m (tails reduced) right (digit F.q n) ≡ true → solves F (suc D) (suc m) A y (unknowns first) ≡ true
    whole_holds all =
        let pivot_holds = pivot_left first first_digit ∙ first_solves in
        passes_all (suc D) (λ i. eqb (left_side F (suc m) (A i) (unknowns first)) (y i))
        (λ k h. eq-eqb (left_side F (suc m) (A k) (unknowns first)) (y k)
        (⊎_elim (λ e. subst (λ i. left_side F (suc m) (A i) (unknowns first) ≡ y i) (sym e) pivot_holds)
        (λ ne.
        let found = skip_found D p k here h ne in
        subst (λ i. left_side F (suc m) (A i) (unknowns first) ≡ y i) found.2 (other_holds found.0 found.1 pivot_holds))
        (cases_eq k p)))
      where
        other_holds : (i : ℕ) → i < D → left_side F (suc m) (A p) (unknowns first) ≡ y p
            → left_side F (suc m) (A (skip p i)) (unknowns first) ≡ y (skip p i)
        other_holds i h holds =
            let left = left_side_digit F laws (suc m) (A (skip p i)) (unknowns first) (λ l k. other_row i l h k) (λ l k. digit_below F laws (n * F.q + first) l) in
            let side = ys (skip p i) (skipped_below F laws D p i h) in
            let added = laws.product_digit (factor i) (y p) (factor_digit i h) (ys p here) in
            sum_cancel_left F laws (F.product (factor i) (y p)) (left_side F (suc m) (A (skip p i)) (unknowns first)) (y (skip p i)) added left side
            (laws.sum_comm (F.product (factor i) (y p)) (left_side F (suc m) (A (skip p i)) (unknowns first)) added left
            ∙ ap (λ x. F.sum (left_side F (suc m) (A (skip p i)) (unknowns first)) (F.product (factor i) x)) (sym holds)
            ∙ sym (reduced_left i first h first_digit)
            ∙ eqb-true (left_side F m (tails reduced i) (digit F.q n)) (right i)
            (all_passes D (λ i. eqb (left_side F m (tails reduced i) (digit F.q n)) (right i)) all i h)
            ∙ laws.sum_comm (y (skip p i)) (F.product (factor i) (y p)) side added)

    pivot_solved : sum_below F.q (λ v. solved F laws (suc D) (suc m) A y (n * F.q + v)) ≡ solved F laws D m (tails reduced) right n
    pivot_solved =
        ⊎_elim
        (λ yes.
        sum_same F.q (λ v. solved F laws (suc D) (suc m) A y (n * F.q + v)) (λ v. cond (eqb first v) 1 0)
        (λ v h. ⊎_elim
        (λ e. cond-true {A = ℕ} (solves F (suc D) (suc m) A y (unknowns v)) 1 0 (subst (λ x. solves F (suc D) (suc m) A y (unknowns x) ≡ true) e (whole_holds yes))
        ∙ sym (cond-true {A = ℕ} (eqb first v) 1 0 (eq-eqb first v e)))
        (λ ne. cond-false {A = ℕ} (solves F (suc D) (suc m) A y (unknowns v)) 1 0 (is_false (solves F (suc D) (suc m) A y (unknowns v)) (λ t. ne (first_fixed v h t)))
        ∙ sym (cond-false {A = ℕ} (eqb first v) 1 0 (ne_eqb first v ne)))
        (cases_eq first v))
        ∙ sum_of_one F.q first (λ v. 1) first_digit
        ∙ sym (cond-true {A = ℕ} (solves F D m (tails reduced) right (digit F.q n)) 1 0 yes))
        (λ no.
        sum_same F.q (λ v. solved F laws (suc D) (suc m) A y (n * F.q + v)) (λ v. 0)
        (λ v h. cond-false {A = ℕ} (solves F (suc D) (suc m) A y (unknowns v)) 1 0
        (is_false (solves F (suc D) (suc m) A y (unknowns v)) (λ t. false≢true (sym no ∙ reduced_holds v h t))))
        ∙ sum_of_zeros F.q
        ∙ sym (cond-false {A = ℕ} (solves F D m (tails reduced) right (digit F.q n)) 1 0 no))
        (cases_Bool (solves F D m (tails reduced) right (digit F.q n)))

  abbrev pub right_sides : (ℕ → ℕ) → ℕ → ℕ
  right_sides y i = F.sum (y (skip p i)) (F.product (factor i) (y p))

  pub right_side_digit : (y : ℕ → ℕ) → ((i : ℕ) → i < suc D → y i < F.q) → (i : ℕ) → i < D → right_sides y i < F.q
  right_side_digit y ys i h =
      laws.sum_digit (y (skip p i)) (F.product (factor i) (y p)) (ys (skip p i) (skipped_below F laws D p i h))
      (laws.product_digit (factor i) (y p) (factor_digit i h) (ys p here))

  pub pivot_column : (y : ℕ → ℕ) → ((i : ℕ) → i < suc D → y i < F.q)
      → sum_below (F.q ^ suc m) (solved F laws (suc D) (suc m) A y) ≡ sum_below (F.q ^ m) (solved F laws D m (tails reduced) (right_sides y))
  pivot_column y ys =
      solutions_by_column F laws (suc D) m A y
      ∙ sum_same (F.q ^ m) (λ n. sum_below F.q (λ v. solved F laws (suc D) (suc m) A y (n * F.q + v)))
      (solved F laws D m (tails reduced) (right_sides y)) (λ n h. pivot_solved y ys n)

module _ (F : FieldModel) (laws : FieldLaws F) where
  tails_independent : (D m : ℕ) (A : ℕ → ℕ → ℕ) → ((i : ℕ) → i < D → A i 0 ≡ 0) → Independent F D (suc m) A → Independent F D m (tails A)
  tails_independent D m A zeros free c cd vanish = free c cd columns
    where
      columns : (l : ℕ) → l < suc m → sum_over F D (λ i. F.product (c i) (A i l)) ≡ 0
      columns zero k =
          sum_over_same F D (λ i. F.product (c i) (A i 0)) (λ i. 0) (λ i j. ap (F.product (c i)) (zeros i j) ∙ product_zero_right F laws (c i) (cd i j))
          ∙ sum_over_none F laws D
      columns (suc l) k = vanish l (omega (arith, k))

  -- D independent rows of m columns: D is at most m, and every right side has q^(m-D) solutions
  abbrev pub Counts : ℕ → ℕ → (ℕ → ℕ → ℕ) → Type 0
  Counts D m A =
      (D ≤ m) × ((y : ℕ → ℕ) → ((i : ℕ) → i < D → y i < F.q) → sum_below (F.q ^ m) (solved F laws D m A y) ≡ F.q ^ (m - D))

  free_counts : (D m : ℕ) (A : ℕ → ℕ → ℕ) → Rows F D (suc m) A → ((i : ℕ) → i < D → A i 0 ≡ 0) → Counts D m (tails A) → Counts D (suc m) A
  free_counts D m A rows zeros told = (
    omega (arith, told.0),
    λ y ys. free_column F laws D m A y rows zeros ∙ ap (λ k. k * F.q) (told.1 y ys) ∙ sym (pow-suc F.q (m - D))
        ∙ ap (λ k. F.q ^ k) (omega (arith, told.0)),
  )

  pivot_counts : (D m p : ℕ) (A : ℕ → ℕ → ℕ) (rows : Rows F (suc D) (suc m) A) (here : p < suc D) (pivot : A p 0 ≡ 0 → ⊥)
      → Counts D m (tails (reduced F laws D m p A rows here pivot)) → Counts (suc D) (suc m) A
  pivot_counts D m p A rows here pivot told = (
    omega (arith, told.0),
    λ y ys. pivot_column F laws D m p A rows here pivot y ys
        ∙ told.1 (right_sides F laws D m p A rows here pivot y) (right_side_digit F laws D m p A rows here pivot y ys)
        ∙ ap (λ k. F.q ^ k) (omega (arith, told.0)),
  )

  pub counts : (m D : ℕ) (A : ℕ → ℕ → ℕ) → Rows F D m A → Independent F D m A → Counts D m A
  counts zero zero A rows free = (omega arith, λ y ys. ap (λ k. sum_below k (solved F laws 0 0 A y)) (pow-zero F.q) ∙ sym (pow-zero F.q))
  counts zero (suc D) A rows free =
      let no : 1 ≤ 0 = omega (arith, free (λ i. 1) (λ i h. omega (arith, laws.limits.0)) (λ l h. elim h [ ]) 0 (omega arith)) in
      elim no [ ]
  counts (suc m) zero A rows free =
      free_counts 0 m A rows (λ i h. elim h [ ]) (counts m 0 (tails A) (λ i l h k. elim h [ ]) (tails_independent 0 m A (λ i h. elim h [ ]) free))
  counts (suc m) (suc D) A rows free =
      ⊎_elim
      (λ zeros. free_counts (suc D) m A rows zeros
      (counts m (suc D) (tails A) (λ i l h k. rows i (suc l) h (omega (arith, k))) (tails_independent (suc D) m A zeros free)))
      (λ found. pivot_counts D m found.0 A rows found.1 found.2
      (counts m D (tails (reduced F laws D m found.0 A rows found.1 found.2))
      (λ i l h k. reduced_digit F laws D m found.0 A rows found.1 found.2 i (suc l) h (omega (arith, k)))
      (reduced_independent F laws D m found.0 A rows found.1 found.2 free)))
      (zero_or_not (suc D) (λ i. A i 0))
