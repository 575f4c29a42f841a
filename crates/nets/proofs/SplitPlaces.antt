-- The rows of a split, coordinate by coordinate: where the rows of a coordinate stand among them, and the sum over all of them.
-- Assumes nothing.
use Rattle.std.proofs.Common.{◌≡◌, ℕ, zero, suc, ◌+◌, ◌-◌, ◌<◌, ltb, List, [], ◌∷◌, length, get_or, take, sym, refl, ap, ◌∙◌, subst, ap₂, ⊎_elim, arith}
use Rattle.std.proofs.lemmas.Bool.{cases_lt, cond-false, cond-true, le-ltb, lt-ltb}
use Rattle.base.proofs.FieldAlgebra.{sum_over_digit, sum_over_same}
use Rattle.base.specs.Fields.{FieldLaws, FieldModel, sum_over}
use Rattle.base.specs.Independence.{split_row}
use Rattle.base.specs.Nets.{total}
use Rattle.base.specs.Tables.{TableModel}
use Rattle.nets.proofs.Counting.{sum_joined, sum_same, sum_below}
use Rattle.nets.proofs.FieldSums.{sum_over_first, sum_over_joined}

-- the number of rows before those of coordinate i
abbrev pub rows_before : List ℕ → ℕ → ℕ
rows_before counts i = total (take i counts)

-- row k, from 0, of coordinate i is one of a split
pub record InSplit (counts : List ℕ) (i k : ℕ) : Type 0 where
  pub coordinate : i < length counts
  pub row : k < get_or counts i 0

-- it stands among the rows of the split behind those of the coordinates before it
pub place_below : (counts : List ℕ) (i k : ℕ) → InSplit counts i k → rows_before counts i + k < total counts
place_below [] i k inside = elim inside.coordinate [ ]
place_below (d ∷ ds) zero k inside = omega (arith, inside.row)
place_below (d ∷ ds) (suc i) k inside =
    omega (arith, place_below ds i k (record { coordinate = omega (arith, inside.coordinate); row = inside.row }))

-- what holds of each row of each coordinate holds of each row of the split
pub every_place : (counts : List ℕ) (P : ℕ → Type 0) → ((i k : ℕ) → InSplit counts i k → P (rows_before counts i + k))
    → (n : ℕ) → n < total counts → P n
every_place [] P each n h = elim h [ ]
every_place (d ∷ ds) P each n h =
    ⊎_elim
    (λ early. let e : 0 + n ≡ n = omega arith in subst P e (each 0 n (record { coordinate = omega arith; row = early })))
    (λ late.
    let e : d + (n - d) ≡ n = omega (arith, late) in
    subst P e
    (every_place ds (λ k. P (d + k))
    (λ i k inside.
    let f : d + rows_before ds i + k ≡ d + (rows_before ds i + k) = omega arith in
    subst P f (each (suc i) k (record { coordinate = omega (arith, inside.coordinate); row = inside.row })))
    (n - d) (omega (arith, late, h))))
    (cases_lt n d)

-- and is that row of its coordinate
pub row_at_place : (T : TableModel) (counts : List ℕ) (j i k : ℕ) → InSplit counts i k
    → split_row T j counts (rows_before counts i + k) ≡ T.entry (j + i) (suc k)
row_at_place T [] j i k inside = elim inside.coordinate [ ]
row_at_place T (d ∷ ds) j zero k inside =
    let e : 0 + k ≡ k = omega arith in
    let f : j ≡ j + 0 = omega arith in
    ap (split_row T j (d ∷ ds)) e
    ∙ cond-true (ltb k d) (T.entry j (suc k)) (split_row T (suc j) ds (k - d)) (lt-ltb k d inside.row)
    ∙ ap (λ n. T.entry n (suc k)) f
row_at_place T (d ∷ ds) j (suc i) k inside =
    let n = d + rows_before ds i + k in
    let e : n - d ≡ rows_before ds i + k = omega arith in
    let f : suc j + i ≡ j + suc i = omega arith in
    cond-false (ltb n d) (T.entry j (suc n)) (split_row T (suc j) ds (n - d)) (le-ltb n d (omega arith))
    ∙ ap (split_row T (suc j) ds) e
    ∙ row_at_place T ds (suc j) i k (record { coordinate = omega (arith, inside.coordinate); row = inside.row })
    ∙ ap (λ n. T.entry n (suc k)) f

-- the counts add up to their total
pub counts_together : (counts : List ℕ) → sum_below (length counts) (λ i. get_or counts i 0) ≡ total counts
counts_together [] = refl
counts_together (d ∷ ds) =
    let n = length ds in
    let e : suc n ≡ 1 + n = omega arith in
    let later : sum_below n (λ i. get_or (d ∷ ds) (1 + i) 0) ≡ sum_below n (λ i. get_or ds i 0) =
    sum_same n (λ i. get_or (d ∷ ds) (1 + i) 0) (λ i. get_or ds i 0)
    (λ i h. let next : 1 + i ≡ suc i = omega arith in ap (λ k. get_or (d ∷ ds) k 0) next) in
    ap (λ n. sum_below n (λ i. get_or (d ∷ ds) i 0)) e ∙ sum_joined 1 n (λ i. get_or (d ∷ ds) i 0)
    ∙ omega (arith, later, counts_together ds)

module _ (F : FieldModel) (laws : FieldLaws F) where
  -- a sum over the rows of a split, coordinate by coordinate
  pub sum_over_split : (counts : List ℕ) (f : ℕ → ℕ) → ((n : ℕ) → n < total counts → f n < F.q)
      → sum_over F (total counts) f ≡ sum_over F (length counts) (λ i. sum_over F (get_or counts i 0) (λ k. f (rows_before counts i + k)))
  sum_over_split [] f digits = refl
  sum_over_split (d ∷ ds) f digits =
      let part : ℕ → ℕ = λ i. sum_over F (get_or (d ∷ ds) i 0) (λ k. f (rows_before (d ∷ ds) i + k)) in
      let part_digit : (i : ℕ) → i < suc (length ds) → part i < F.q =
      λ i h. sum_over_digit F laws (get_or (d ∷ ds) i 0) (λ k. f (rows_before (d ∷ ds) i + k))
      (λ k l. digits (rows_before (d ∷ ds) i + k) (place_below (d ∷ ds) i k (record { coordinate = h; row = l }))) in
      sum_over_joined F laws d (total ds) f digits
      ∙ ap₂ F.sum
      (sum_over_same F d f (λ k. f (0 + k)) (λ k h. let e : k ≡ 0 + k = omega arith in ap f e))
      (sum_over_split ds (λ n. f (d + n)) (λ n h. digits (d + n) (omega (arith, h)))
      ∙ sum_over_same F (length ds) (λ i. sum_over F (get_or ds i 0) (λ k. f (d + (rows_before ds i + k)))) (λ i. part (suc i))
      (λ i h. sum_over_same F (get_or ds i 0) (λ k. f (d + (rows_before ds i + k))) (λ k. f (d + rows_before ds i + k))
      (λ k l. let e : d + (rows_before ds i + k) ≡ d + rows_before ds i + k = omega arith in ap f e)))
      ∙ sym (sum_over_first F laws (length ds) part part_digit)
