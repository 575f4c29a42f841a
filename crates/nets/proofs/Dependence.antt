-- Dependent rows: where a combination with a coefficient other than 0 vanishes, the right side that is 1 there and 0 elsewhere
-- has no solution. Whether there is such a combination is found by a search over all coefficients. Assumes nothing.
use Rattle.std.proofs.Common.{◌≡◌, ℕ, zero, suc, ◌+◌, ◌-◌, ◌*◌, ◌^◌, ◌<◌, Bool, true, cond, eqb, ◌⊎◌, sym, refl, ap, ◌∙◌, subst, ap₂, inl, inr, ⊎_elim, mul_comm, add_comm, pow-suc, arith}
use native.Mathlib.Nat.{one-le-pow, pow-zero}
use Rattle.std.proofs.lemmas.Nat.{mul-add-lt}
use Rattle.std.proofs.lemmas.Bool.{cases_Bool, cases_eq, cond-false, cond-true, eq-eqb, eqb-true, ne_eqb}
use Rattle.base.proofs.FieldAlgebra.{product_zero_right, sum_over_same, sum_zero_right, zero_digit}
use Rattle.base.specs.Fields.{FieldLaws, FieldModel, sum_over}
use Rattle.base.specs.Orders.{digit, from_digits}
use Rattle.base.specs.Independence.{Independent}
use Rattle.nets.specs.Rows.{Rows, all_below, left_side, solves}
use Rattle.nets.proofs.Counting.{sum_of_zeros, sum_same, sum_below}
use Rattle.nets.proofs.FieldSums.{sum_over_multiples, sum_over_none, sum_over_swapped}
use Rattle.nets.proofs.Numbers.{higher_digit, lowest_digit}
use Rattle.nets.proofs.Systems.{all_passes, counts, digit_below, is_false, passes_all, skip, skip_not, skipped_below, solved, sum_over_without, zero_or_not}

-- ---- a number with given digits

flipped : (q x n : ℕ) → x + q * n ≡ n * q + x
flipped q x n = add_comm x (q * n) ∙ ap (λ k. k + x) (mul_comm q n)

from_digits_below : (q n : ℕ) (f : ℕ → ℕ) → ((i : ℕ) → i < n → f i < q) → from_digits q n f < q ^ n
from_digits_below q zero f digits = omega (arith, pow-zero q)
from_digits_below q (suc n) f digits =
    let rest = from_digits q n (λ l. f (suc l)) in
    rw (flipped q (f 0) rest)
    (rw (pow-suc q n ∙ mul_comm (q ^ n) q)
    (mul-add-lt rest q (f 0) (q ^ n) (from_digits_below q n (λ l. f (suc l)) (λ i h. digits (suc i) (omega (arith, h)))) (digits 0 (omega arith))))

digit_from_digits : (q n : ℕ) (f : ℕ → ℕ) → ((i : ℕ) → i < n → f i < q) → (i : ℕ) → i < n → digit q (from_digits q n f) i ≡ f i
digit_from_digits q zero f digits i h = elim h [ ]
digit_from_digits q (suc n) f digits zero h =
    ap (λ k. digit q k 0) (flipped q (f 0) (from_digits q n (λ l. f (suc l)))) ∙ lowest_digit q (from_digits q n (λ l. f (suc l))) (f 0) (digits 0 h)
digit_from_digits q (suc n) f digits (suc i) h =
    ap (λ k. digit q k (suc i)) (flipped q (f 0) (from_digits q n (λ l. f (suc l))))
    ∙ higher_digit q (from_digits q n (λ l. f (suc l))) (f 0) i (digits 0 (omega arith))
    ∙ digit_from_digits q n (λ l. f (suc l)) (λ k l. digits (suc k) (omega (arith, l))) i (omega (arith, h))

each_zero : (n : ℕ) (f : ℕ → ℕ) → sum_below n f ≡ 0 → (i : ℕ) → i < n → f i ≡ 0
each_zero zero f none i h = elim h [ ]
each_zero (suc n) f none i h =
    ⊎_elim (λ e. ap f e ∙ omega (arith, none)) (λ ne. each_zero n f (omega (arith, none)) i (omega (arith, h, ne))) (cases_eq i n)

-- ---- one coefficient

module _ (F : FieldModel) (laws : FieldLaws F) (D m : ℕ) (A : ℕ → ℕ → ℕ) (rows : Rows F D m A) where
  -- 1 at j and 0 elsewhere
  abbrev pub unit : ℕ → ℕ → ℕ
  unit j i = cond (eqb i j) 1 0

  unit_digit : (j i : ℕ) → unit j i < F.q
  unit_digit j i =
      ⊎_elim (λ e. subst (λ n. n < F.q) (sym (cond-true {A = ℕ} (eqb i j) 1 0 (eq-eqb i j e))) (omega (arith, laws.limits.0)))
      (λ ne. subst (λ n. n < F.q) (sym (cond-false {A = ℕ} (eqb i j) 1 0 (ne_eqb i j ne))) (zero_digit F laws)) (cases_eq i j)

  unit_there : (j : ℕ) → unit j j ≡ 1
  unit_there j = cond-true {A = ℕ} (eqb j j) 1 0 (eq-eqb j j refl)

  unit_elsewhere : (j i : ℕ) → (i ≡ j → ⊥) → unit j i ≡ 0
  unit_elsewhere j i ne = cond-false {A = ℕ} (eqb i j) 1 0 (ne_eqb i j ne)

  -- a sum of multiples of the digits of a unit is one of them
  sum_of_unit : (n j : ℕ) (c : ℕ → ℕ) → j < n → ((i : ℕ) → i < n → c i < F.q) → sum_over F n (λ i. F.product (c i) (unit j i)) ≡ c j
  sum_of_unit zero j c h digits = elim h [ ]
  sum_of_unit (suc n) j c h digits =
      sum_over_without F laws n j (λ i. F.product (c i) (unit j i)) h (λ i k. laws.product_digit (c i) (unit j i) (digits i k) (unit_digit j i))
      ∙ ap₂ F.sum
      (ap (F.product (c j)) (unit_there j) ∙ laws.product_comm (c j) 1 (digits j h) (omega (arith, laws.limits.0)) ∙ laws.product_one (c j) (digits j h))
      (sum_over_same F n (λ i. F.product (c (skip j i)) (unit j (skip j i))) (λ i. 0)
      (λ i k. ap (F.product (c (skip j i))) (unit_elsewhere j (skip j i) (skip_not j i))
      ∙ product_zero_right F laws (c (skip j i)) (digits (skip j i) (skipped_below F laws n j i k)))
      ∙ sum_over_none F laws n)
      ∙ sum_zero_right F laws (c j) (digits j h)

  -- the combination of the left sides is the left side of the combination
  combined_left : (c x : ℕ → ℕ) → ((i : ℕ) → i < D → c i < F.q) → ((l : ℕ) → l < m → x l < F.q)
      → sum_over F D (λ i. F.product (c i) (left_side F m (A i) x))
      ≡ sum_over F m (λ l. F.product (x l) (sum_over F D (λ i. F.product (c i) (A i l))))
  combined_left c x cd xd =
      let ax : (i l : ℕ) → i < D → l < m → F.product (A i l) (x l) < F.q = λ i l h k. laws.product_digit (A i l) (x l) (rows i l h k) (xd l k) in
      let ca : (i l : ℕ) → i < D → l < m → F.product (c i) (A i l) < F.q = λ i l h k. laws.product_digit (c i) (A i l) (cd i h) (rows i l h k) in
      sum_over_same F D (λ i. F.product (c i) (left_side F m (A i) x)) (λ i. sum_over F m (λ l. F.product (x l) (F.product (c i) (A i l))))
      (λ i h. sym (sum_over_multiples F laws m (c i) (λ l. F.product (A i l) (x l)) (cd i h) (λ l k. ax i l h k))
      ∙ sum_over_same F m (λ l. F.product (c i) (F.product (A i l) (x l))) (λ l. F.product (x l) (F.product (c i) (A i l)))
      (λ l k. sym (laws.product_assoc (c i) (A i l) (x l) (cd i h) (rows i l h k) (xd l k)) ∙ laws.product_comm (F.product (c i) (A i l)) (x l) (ca i l h k) (xd l k)))
      ∙ sum_over_swapped F laws D m (λ i l. F.product (x l) (F.product (c i) (A i l)))
      (λ i l h k. laws.product_digit (x l) (F.product (c i) (A i l)) (xd l k) (ca i l h k))
      ∙ sum_over_same F m (λ l. sum_over F D (λ i. F.product (x l) (F.product (c i) (A i l)))) (λ l. F.product (x l) (sum_over F D (λ i. F.product (c i) (A i l))))
      (λ l k. sum_over_multiples F laws D (x l) (λ i. F.product (c i) (A i l)) (xd l k) (λ i h. ca i l h k))

  -- a combination that vanishes has coefficient 0 where a unit has a solution
  unit_unsolved : (c x : ℕ → ℕ) (j : ℕ) → j < D → ((i : ℕ) → i < D → c i < F.q) → ((l : ℕ) → l < m → x l < F.q)
      → ((l : ℕ) → l < m → sum_over F D (λ i. F.product (c i) (A i l)) ≡ 0) → solves F D m A (unit j) x ≡ true → c j ≡ 0
  unit_unsolved c x j h cd xd vanish all =
      sym (sum_of_unit D j c h cd)
      ∙ sum_over_same F D (λ i. F.product (c i) (unit j i)) (λ i. F.product (c i) (left_side F m (A i) x))
      (λ i k. ap (F.product (c i)) (sym (eqb-true (left_side F m (A i) x) (unit j i) (all_passes D (λ i. eqb (left_side F m (A i) x) (unit j i)) all i k))))
      ∙ combined_left c x cd xd
      ∙ sum_over_same F m (λ l. F.product (x l) (sum_over F D (λ i. F.product (c i) (A i l)))) (λ l. 0)
      (λ l k. ap (F.product (x l)) (vanish l k) ∙ product_zero_right F laws (x l) (xd l k))
      ∙ sum_over_none F laws m

  -- ---- the search

  abbrev vanishes : (ℕ → ℕ) → Bool
  vanishes c = all_below m (λ l. eqb (sum_over F D (λ i. F.product (c i) (A i l))) 0)

  -- other than 0 where the digits of N are coefficients of a combination that vanishes, and not all 0
  abbrev tested : ℕ → ℕ
  tested N = cond (vanishes (digit F.q N)) (sum_below D (digit F.q N)) 0

  independent_if_none : ((N : ℕ) → N < F.q ^ D → tested N ≡ 0) → Independent F D m A
  independent_if_none none c cd vanish i h =
      let N = from_digits F.q D c in
      let same : (i : ℕ) → i < D → digit F.q N i ≡ c i = digit_from_digits F.q D c cd in
      let passes : vanishes (digit F.q N) ≡ true = passes_all m (λ l. eqb (sum_over F D (λ i. F.product (digit F.q N i) (A i l))) 0)
      (λ l k. eq-eqb (sum_over F D (λ i. F.product (digit F.q N i) (A i l))) 0
      (sum_over_same F D (λ i. F.product (digit F.q N i) (A i l)) (λ i. F.product (c i) (A i l)) (λ i j. ap (λ x. F.product x (A i l)) (same i j)) ∙ vanish l k)) in
      sym (same i h)
      ∙ each_zero D (digit F.q N)
      (sym (cond-true (vanishes (digit F.q N)) (sum_below D (digit F.q N)) 0 passes) ∙ none N (from_digits_below F.q D c cd)) i h

  found_vanishes : (N : ℕ) → (tested N ≡ 0 → ⊥) → vanishes (digit F.q N) ≡ true
  found_vanishes N some =
      ⊎_elim (λ e. e)
      (λ e. let no = some (cond-false (vanishes (digit F.q N)) (sum_below D (digit F.q N)) 0 e) in elim no [ ])
      (cases_Bool (vanishes (digit F.q N)))

  all_zero : (n : ℕ) (f : ℕ → ℕ) → ((i : ℕ) → i < n → f i ≡ 0) → sum_below n f ≡ 0
  all_zero n f zeros = sum_same n f (λ i. 0) zeros ∙ sum_of_zeros n

  found_coefficient : (N : ℕ) → (tested N ≡ 0 → ⊥) → (j : ℕ) × (j < D) × (digit F.q N j ≡ 0 → ⊥)
  found_coefficient N some =
      ⊎_elim
      (λ zeros.
      let no = some (cond-true (vanishes (digit F.q N)) (sum_below D (digit F.q N)) 0 (found_vanishes N some) ∙ all_zero D (digit F.q N) zeros) in
      elim no [ ])
      (λ found. found)
      (zero_or_not D (digit F.q N))

  -- rows are independent, or some right side has no solution
  pub independent_or_unsolved : Independent F D m A
      ⊎ ((y : ℕ → ℕ) × ((i : ℕ) → i < D → y i < F.q) × (sum_below (F.q ^ m) (solved F laws D m A y) ≡ 0))
  independent_or_unsolved =
      ⊎_elim
      (λ none. inl (independent_if_none none))
      (λ found.
      let N = found.0 in
      let j = found_coefficient N found.2 in
      inr (
        unit j.0,
        λ i h. unit_digit j.0 i,
        all_zero (F.q ^ m) (solved F laws D m A (unit j.0))
            (λ n h. cond-false {A = ℕ} (solves F D m A (unit j.0) (digit F.q n)) 1 0
            (is_false (solves F D m A (unit j.0) (digit F.q n))
            (λ t. j.2 (unit_unsolved (digit F.q N) (digit F.q n) j.0 j.1 (λ i k. digit_below F laws N i) (λ l k. digit_below F laws n l)
            (λ l k. eqb-true (sum_over F D (λ i. F.product (digit F.q N i) (A i l))) 0
            (all_passes m (λ l. eqb (sum_over F D (λ i. F.product (digit F.q N i) (A i l))) 0) (found_vanishes N found.2) l k)) t)))),
      ))
      (zero_or_not (F.q ^ D) tested)

  -- dependent rows have a right side without a solution
  pub unsolved : (Independent F D m A → ⊥)
      → (y : ℕ → ℕ) × ((i : ℕ) → i < D → y i < F.q) × (sum_below (F.q ^ m) (solved F laws D m A y) ≡ 0)
  unsolved dependent = ⊎_elim (λ free. absurd (dependent free)) (λ found. found) independent_or_unsolved

  -- and rows are independent or not
  pub independent_or_not : Independent F D m A ⊎ (Independent F D m A → ⊥)
  independent_or_not =
      ⊎_elim (λ free. inl free)
      (λ found. inr (λ free.
      let some : 0 < F.q ^ (m - D) = one-le-pow (m - D) F.q (zero_digit F laws) in
      omega (arith, some, found.2, (counts F laws m D A rows free).1 found.0 found.1)))
      independent_or_unsolved
