-- Tables of zeros: over every field the verdict on m is m, since rows of zeros are dependent as soon as there is one.
-- Assumes nothing.
use Rattle.std.proofs.Common.{◌≡◌, ℕ, zero, suc, ◌+◌, ◌-◌, ◌*◌, ◌<◌, ◌≤◌, ltb, List, [], ◌∷◌, get_or, replicate, refl, ap, ◌∙◌, ⊎_elim, arith}
use Rattle.std.proofs.lemmas.Bool.{cases_lt, cond_both}
use Rattle.std.proofs.lemmas.List.{get_or-replicate, get_or_past, length-replicate}
use Rattle.base.proofs.FieldAlgebra.{product_zero_right, sum_over_same}
use Rattle.base.specs.Fields.{FieldLaws, FieldModel}
use Rattle.base.specs.Independence.{FirstPassing, Passes, split_row}
use Rattle.base.specs.Nets.{Split, total}
use Rattle.base.specs.Tables.{TableModel}
use Rattle.examples.specs.Stated.{RawZeros}
use Rattle.nets.proofs.FieldSums.{sum_over_none}
use Rattle.tables.specs.Raw.{raw_table}

total_of_zeros : (n : ℕ) → total (replicate n 0) ≡ 0
total_of_zeros zero = refl
total_of_zeros (suc n) = omega (arith, total_of_zeros n)

-- a split with all in the first coordinate
first_has_all : (s d : ℕ) → 1 ≤ s → Split s d (d ∷ replicate (s - 1) 0)
first_has_all s d some = (omega (arith, some, length-replicate {A = ℕ} (s - 1) 0), omega (arith, total_of_zeros (s - 1)))

module _ (F : FieldModel) (laws : FieldLaws F) (T : TableModel) (zeros : (j k l : ℕ) → T.entry j k l ≡ 0) where
  row_of_zeros : (j : ℕ) (counts : List ℕ) (i l : ℕ) → split_row T j counts i l ≡ 0
  row_of_zeros j [] i l = refl
  row_of_zeros j (d ∷ ds) i l =
      cond_both (ltb i d) (T.entry j (suc i)) (split_row T (suc j) ds (i - d)) (λ row. row l ≡ 0) (λ e. zeros j (suc i) l)
      (λ e. row_of_zeros (suc j) ds (i - d) l)

  -- the combination with all coefficients 1 vanishes
  dependent : (m : ℕ) (counts : List ℕ) → 1 ≤ total counts → Passes F T m counts → ⊥
  dependent m counts some pass =
      let one : 1 < F.q = omega (arith, laws.limits.0) in
      let no : 1 ≡ 0 =
      pass (λ i. 1) (λ i h. one)
      (λ l h.
      sum_over_same F (total counts) (λ i. F.product 1 (split_row T 0 counts i l)) (λ i. 0)
      (λ i k. ap (F.product 1) (row_of_zeros 0 counts i l) ∙ product_zero_right F laws 1 one)
      ∙ sum_over_none F laws (total counts))
      0 some in
      omega (arith, no)

  verdict_of_zeros : 1 ≤ T.coordinates → (m : ℕ) → FirstPassing F T m m
  verdict_of_zeros some m =
      record {
        within = omega arith;
        passes = λ counts split c digits vanish i h. absurd (omega (arith, split.1, h));
        fails = λ u h.
            let counts = (m - u) ∷ replicate (T.coordinates - 1) 0 in
            let split = first_has_all T.coordinates (m - u) some in
            (counts, split, dependent m counts (omega (arith, split.1, h)));
      }

zero_at : (n i : ℕ) → get_or {A = ℕ} (replicate n 0) i 0 ≡ 0
zero_at n i =
    ⊎_elim (λ h. get_or-replicate n i 0 0 h) (λ h. get_or_past (replicate n 0) i 0 (omega (arith, h, length-replicate {A = ℕ} n 0)))
    (cases_lt i n)

pub raw_zeros : RawZeros
raw_zeros F laws M s m some =
    verdict_of_zeros F laws (raw_table F.q M s (replicate (s * (M * M)) 0)) (λ j k l. zero_at (s * (M * M)) ((j * M + (k - 1)) * M + l)) some m
