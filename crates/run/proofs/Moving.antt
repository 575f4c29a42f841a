-- From one index to another, digit by digit: up to column l the rows are taken at the digits of the new index, from there on at
-- those of the old one. Where the two have equal quotients by q^l, all further digits agree. Assumes nothing.
use Rattle.std.proofs.Common.{◌≡◌, ℕ, zero, suc, ◌+◌, ◌-◌, ◌*◌, ◌/◌, ◌%◌, ◌^◌, ◌<◌, ◌≤◌, Bool, cond, not, eqb, ltb, ◌≢◌, List, sym, refl, ap, ◌∙◌, subst, ap₂, ⊎_elim, add-zero, mod-lt, pow-suc, zero-add, div-one, add-one, arith, pow-add}
use native.Mathlib.Nat.{div-div-eq-div-mul, pow-zero}
use Rattle.std.proofs.lemmas.Bool.{cases_eq, cases_lt, cond-false, cond-true, eq-eqb, le-ltb, lt-ltb, ne_eqb}
use Rattle.base.proofs.FieldAlgebra.{sum_over_digit, sum_over_same, sum_zero_right, zero_digit}
use Rattle.base.specs.Blocks.{TableOver}
use Rattle.base.specs.Fields.{FieldLaws, FieldModel, sum_over}
use Rattle.base.specs.Orders.{digit}
use Rattle.base.specs.Tables.{TableModel}
use Rattle.nets.proofs.Counting.{sum_joined, sum_of_zeros, sum_same, sum_below}
use Rattle.nets.proofs.Solutions.{count_is_sum}
use Rattle.nets.proofs.Systems.{skip, skip_not, skipped_below, sum_over_without}
use Rattle.run.specs.Present.{Changed, Present, changed_digits}
use Rattle.run.specs.declared.coordinate.Coordinate.{Coordinate}

-- ---- one summand

module _ (F : FieldModel) (laws : FieldLaws F) where
  -- e b = e a + e (b - a)
  product_changed : (e a b : ℕ) → e < F.q → a < F.q → b < F.q
      → F.product e b ≡ F.sum (F.product e a) (F.product e (F.sum b (F.negative a)))
  product_changed e a b he ha hb =
      let n = laws.negative_digit a ha in
      let d = laws.sum_digit b (F.negative a) hb n in
      ap (F.product e)
      (sym (sum_zero_right F laws b hb) ∙ ap (F.sum b) (sym (laws.sum_negative a ha) ∙ laws.sum_comm a (F.negative a) ha n)
      ∙ sym (laws.sum_assoc b (F.negative a) a hb n ha) ∙ laws.sum_comm (F.sum b (F.negative a)) a d ha)
      ∙ laws.distributes e a (F.sum b (F.negative a)) he ha d

  -- where one of the x changes from a to b, the sum of products changes by e (b - a)
  pub row_changed : (M l : ℕ) (e x y : ℕ → ℕ) → l < M → ((i : ℕ) → i < M → e i < F.q) → ((i : ℕ) → i < M → x i < F.q)
      → ((i : ℕ) → i < M → y i < F.q) → ((i : ℕ) → i < M → i ≢ l → y i ≡ x i)
      → sum_over F M (λ i. F.product (e i) (y i))
      ≡ F.sum (sum_over F M (λ i. F.product (e i) (x i))) (F.product (e l) (F.sum (y l) (F.negative (x l))))
  row_changed zero l e x y h ed xd yd same = elim h [ ]
  row_changed (suc n) l e x y h ed xd yd same =
      let f : ℕ → ℕ = λ i. F.product (e i) (y i) in
      let g : ℕ → ℕ = λ i. F.product (e i) (x i) in
      let fd : (i : ℕ) → i < suc n → f i < F.q = λ i k. laws.product_digit (e i) (y i) (ed i k) (yd i k) in
      let gd : (i : ℕ) → i < suc n → g i < F.q = λ i k. laws.product_digit (e i) (x i) (ed i k) (xd i k) in
      let rest = sum_over F n (λ i. g (skip l i)) in
      let rest_digit = sum_over_digit F laws n (λ i. g (skip l i)) (λ i k. gd (skip l i) (skipped_below F laws n l i k)) in
      let d = F.product (e l) (F.sum (y l) (F.negative (x l))) in
      let d_digit = laws.product_digit (e l) (F.sum (y l) (F.negative (x l))) (ed l h)
      (laws.sum_digit (y l) (F.negative (x l)) (yd l h) (laws.negative_digit (x l) (xd l h))) in
      sum_over_without F laws n l f h fd
      ∙ ap₂ F.sum (product_changed (e l) (x l) (y l) (ed l h) (xd l h) (yd l h))
      (sum_over_same F n (λ i. f (skip l i)) (λ i. g (skip l i))
      (λ i k. ap (F.product (e (skip l i))) (same (skip l i) (skipped_below F laws n l i k) (skip_not l i))))
      ∙ laws.sum_assoc (g l) d rest (gd l h) d_digit rest_digit
      ∙ ap (F.sum (g l)) (laws.sum_comm d rest d_digit rest_digit)
      ∙ sym (laws.sum_assoc (g l) rest d (gd l h) rest_digit d_digit)
      ∙ ap (λ z. F.sum z d) (sym (sum_over_without F laws n l g h gd))

-- ---- the rows of a table

module _ (F : FieldModel) (T : TableModel) (over : TableOver F T) where
  pub entry_digit : (j k l : ℕ) → j < T.coordinates → k < T.digits → l < T.digits → T.entry j (suc k) l < F.q
  entry_digit j k l hj hk hl =
      subst (λ q. T.entry j (suc k) l < q) (sym over.q)
      (over.digits j (suc k) l (record { coordinate = hj; row_least = omega arith; row_most = omega (arith, hk); column = hl }))

  -- only the first M digits count
  pub present_same : (x y : ℕ → ℕ) (coordinates : List Coordinate) → ((l : ℕ) → l < T.digits → x l ≡ y l) → Present F T x coordinates
      → Present F T y coordinates
  present_same x y coordinates same present j k hj hk =
      present j k hj hk
      ∙ sum_over_same F T.digits (λ l. F.product (T.entry j (suc k) l) (x l)) (λ l. F.product (T.entry j (suc k) l) (y l))
      (λ l h. ap (F.product (T.entry j (suc k) l)) (same l h))

  pub present_changed : (x y : ℕ → ℕ) (l : ℕ) (before after : List Coordinate) → l < T.digits → ((i : ℕ) → i < T.digits → x i < F.q)
      → ((i : ℕ) → i < T.digits → y i < F.q) → ((i : ℕ) → i < T.digits → i ≢ l → y i ≡ x i)
      → Changed F T l (F.sum (y l) (F.negative (x l))) T.coordinates before after → Present F T x before → Present F T y after
  present_changed x y l before after h xd yd same changed present j k hj hk =
      changed.changed j k hj hk
      ∙ ap (λ r. F.sum r (F.product (T.entry j (suc k) l) (F.sum (y l) (F.negative (x l))))) (present j k hj hk)
      ∙ sym (row_changed F over.laws T.digits l (T.entry j (suc k)) x y h (λ i g. entry_digit j k i hj hk g) xd yd same)

-- ---- the digits of two indexes

-- those of b up to column l, those of a from there on
abbrev pub mixed : ℕ → ℕ → ℕ → ℕ → ℕ → ℕ
mixed q a b l i = cond (ltb i l) (digit q b i) (digit q a i)

pub mixed_before : (q a b l i : ℕ) → i < l → mixed q a b l i ≡ digit q b i
mixed_before q a b l i h = cond-true (ltb i l) (digit q b i) (digit q a i) (lt-ltb i l h)

pub mixed_after : (q a b l i : ℕ) → l ≤ i → mixed q a b l i ≡ digit q a i
mixed_after q a b l i h = cond-false (ltb i l) (digit q b i) (digit q a i) (le-ltb i l h)

mixed_digit : (q a b l i : ℕ) → 1 ≤ q → mixed q a b l i < q
mixed_digit q a b l i some =
    ⊎_elim (λ h. subst (λ x. x < q) (sym (mixed_before q a b l i h)) (mod-lt (b / q ^ i) some))
    (λ h. subst (λ x. x < q) (sym (mixed_after q a b l i h)) (mod-lt (a / q ^ i) some)) (cases_lt i l)

-- one column more changes only that column
mixed_more : (q a b l i : ℕ) → i ≢ l → mixed q a b (l + 1) i ≡ mixed q a b l i
mixed_more q a b l i ne =
    ⊎_elim (λ h. mixed_before q a b (l + 1) i (omega (arith, h)) ∙ sym (mixed_before q a b l i h))
    (λ h. mixed_after q a b (l + 1) i (omega (arith, h, ne)) ∙ sym (mixed_after q a b l i h)) (cases_lt i l)

-- equal quotients by q^l have equal digits from l on
equal_above : (q a b l i : ℕ) → a / q ^ l ≡ b / q ^ l → l ≤ i → digit q a i ≡ digit q b i
equal_above q a b l i e h =
    let split : q ^ i ≡ q ^ l * q ^ (i - l) = ap (λ k. q ^ k) (omega (arith, h)) ∙ pow-add q l (i - l) in
    let quotient : (n : ℕ) → n / q ^ i ≡ n / q ^ l / q ^ (i - l) = λ n.
    ap (λ w. n / w) split ∙ sym (div-div-eq-div-mul n (q ^ l) (q ^ (i - l))) in
    ap (λ x. x % q) (quotient a ∙ ap (λ x. x / q ^ (i - l)) e ∙ sym (quotient b))

-- the quotient by the next power
pub next_quotient : (q n l x : ℕ) → x ≡ n / q ^ l → x / q ≡ n / q ^ (l + 1)
next_quotient q n l x is =
    ap (λ y. y / q) is ∙ div-div-eq-div-mul n (q ^ l) q ∙ ap (λ w. n / w) (sym (pow-suc q l) ∙ ap (λ k. q ^ k) (sym (add-one l)))

pub first_quotient : (q n : ℕ) → n ≡ n / q ^ 0
first_quotient q n = sym (ap (λ w. n / w) (pow-zero q) ∙ div-one n)

-- 1 where two digits differ
abbrev differs : ℕ → ℕ → ℕ → ℕ → Bool
differs q a b l = not (eqb (digit q a l) (digit q b l))

changed_is_sum : (q M a b : ℕ) → changed_digits q M a b ≡ sum_below M (λ l. cond (differs q a b l) 1 0)
changed_is_sum q M a b =
    count_is_sum (differs q a b) 0 M
    ∙ sum_same M (λ l. cond (differs q a b (0 + l)) 1 0) (λ l. cond (differs q a b l) 1 0) (λ l h. ap (λ k. cond (differs q a b k) 1 0) (zero-add l))

pub changed_digit_more : (q l a b : ℕ) → digit q a l ≢ digit q b l → changed_digits q (l + 1) a b ≡ changed_digits q l a b + 1
changed_digit_more q l a b ne =
    ap (λ k. changed_digits q k a b) (add-one l) ∙ changed_is_sum q (suc l) a b
    ∙ ap₂ ◌+◌ (sym (changed_is_sum q l a b)) (ap (λ t. cond (not t) 1 0) (ne_eqb (digit q a l) (digit q b l) ne))

pub same_digit_more : (q l a b : ℕ) → digit q a l ≡ digit q b l → changed_digits q (l + 1) a b ≡ changed_digits q l a b
same_digit_more q l a b e =
    ap (λ k. changed_digits q k a b) (add-one l) ∙ changed_is_sum q (suc l) a b
    ∙ ap₂ ◌+◌ (sym (changed_is_sum q l a b)) (ap (λ t. cond (not t) 1 0) (eq-eqb (digit q a l) (digit q b l) e)) ∙ add-zero (changed_digits q l a b)

changed_above : (q M a b l : ℕ) → a / q ^ l ≡ b / q ^ l → l ≤ M → changed_digits q l a b ≡ changed_digits q M a b
changed_above q M a b l e h =
    let f : ℕ → ℕ = λ i. cond (differs q a b i) 1 0 in
    let whole : l + (M - l) ≡ M = omega (arith, h) in
    let none : sum_below (M - l) (λ i. f (l + i)) ≡ 0 = sum_same (M - l) (λ i. f (l + i)) (λ i. 0)
    (λ i k. ap (λ t. cond (not t) 1 0) (eq-eqb (digit q a (l + i)) (digit q b (l + i)) (equal_above q a b l (l + i) e (omega arith)))) ∙ sum_of_zeros (M - l) in
    changed_is_sum q l a b ∙ omega (arith, none, sum_joined l (M - l) f) ∙ ap (λ k. sum_below k f) whole ∙ sym (changed_is_sum q M a b)

-- ---- the loop

-- the digits before column l are moved
pub record MovedUpTo (F : FieldModel) (T : TableModel) (a b l : ℕ) (coordinates : List Coordinate) (changed : ℕ) : Type 0 where
  pub present : Present F T (mixed T.q a b l) coordinates
  pub count : changed ≡ changed_digits T.q l a b

module _ (F : FieldModel) (T : TableModel) (over : TableOver F T) (a b : ℕ) where
  some : 1 ≤ T.q
  some = subst (λ q. 1 ≤ q) over.q (zero_digit F over.laws)

  digits_below : (x : ℕ → ℕ) → ((i : ℕ) → x i < T.q) → (i : ℕ) → i < T.digits → x i < F.q
  digits_below x h i g = subst (λ q. x i < q) (sym over.q) (h i)

  pub moved_none : (coordinates : List Coordinate) → Present F T (digit T.q a) coordinates → MovedUpTo F T a b 0 coordinates 0
  moved_none coordinates present =
      record {
        present = present_same F T over (digit T.q a) (mixed T.q a b 0) coordinates (λ l h. sym (mixed_after T.q a b 0 l (omega arith))) present;
        count = refl;
      }

  -- a column whose digits differ
  pub moved_changed : (l : ℕ) (before after : List Coordinate) (changed : ℕ) → l < T.digits → digit T.q a l ≢ digit T.q b l
      → Changed F T l (F.sum (digit T.q b l) (F.negative (digit T.q a l))) T.coordinates before after
      → MovedUpTo F T a b l before changed → MovedUpTo F T a b (l + 1) after (changed + 1)
  moved_changed l before after changed h ne is so_far =
      let x = mixed T.q a b l in
      let y = mixed T.q a b (l + 1) in
      record {
        present = present_changed F T over x y l before after h (digits_below x (λ i. mixed_digit T.q a b l i some))
            (digits_below y (λ i. mixed_digit T.q a b (l + 1) i some)) (λ i g. mixed_more T.q a b l i)
            (subst (λ d. Changed F T l d T.coordinates before after)
            (ap₂ (λ v w. F.sum v (F.negative w)) (sym (mixed_before T.q a b (l + 1) l (omega arith))) (sym (mixed_after T.q a b l l (omega arith)))) is)
            so_far.present;
        count = ap (λ k. k + 1) so_far.count ∙ sym (changed_digit_more T.q l a b ne);
      }

  -- a column whose digits agree
  pub moved_same : (l : ℕ) (coordinates : List Coordinate) (changed : ℕ) → digit T.q a l ≡ digit T.q b l
      → MovedUpTo F T a b l coordinates changed → MovedUpTo F T a b (l + 1) coordinates changed
  moved_same l coordinates changed e so_far =
      record {
        present = present_same F T over (mixed T.q a b l) (mixed T.q a b (l + 1)) coordinates
            (λ i h. ⊎_elim
            (λ here. ap (mixed T.q a b l) here ∙ mixed_after T.q a b l l (omega arith) ∙ e ∙ sym (mixed_before T.q a b (l + 1) l (omega arith))
            ∙ ap (mixed T.q a b (l + 1)) (sym here))
            (λ ne. sym (mixed_more T.q a b l i ne)) (cases_eq i l))
            so_far.present;
        count = so_far.count ∙ sym (same_digit_more T.q l a b e);
      }

  -- where the quotients agree, all is moved
  pub moved_all : (l : ℕ) (coordinates : List Coordinate) (changed : ℕ) → l ≤ T.digits → a / T.q ^ l ≡ b / T.q ^ l
      → MovedUpTo F T a b l coordinates changed
      → Present F T (digit T.q b) coordinates × (changed ≡ changed_digits T.q T.digits a b)
  moved_all l coordinates changed h e so_far = (
    present_same F T over (mixed T.q a b l) (digit T.q b) coordinates
        (λ i g. ⊎_elim (mixed_before T.q a b l i)
        (λ high. mixed_after T.q a b l i high ∙ equal_above T.q a b l i e high) (cases_lt i l))
        so_far.present,
    so_far.count ∙ changed_above T.q T.digits a b l e h,
  )
