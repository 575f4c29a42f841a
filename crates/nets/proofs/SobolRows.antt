-- The rows of Sobol' tables over a field of two elements: the digits of each coordinate follow from its record's polynomial; and
-- with one coordinate every split passes, since its rows are in triangular form. Assumes nothing.
use Rattle.std.proofs.Common.{◌≡◌, ℕ, suc, ◌+◌, ◌-◌, ◌/◌, ◌<◌, ◌≤◌, ltb, List, [], ◌∷◌, length, sym, ap, ◌∙◌, subst, ap₂, ⊎_elim, arith}
use Rattle.std.proofs.lemmas.Bool.{cases_lt, cond-false, cond-true, le-ltb, lt-ltb}
use Rattle.base.proofs.FieldAlgebra.{sum_over_same}
use Rattle.base.specs.Fields.{FieldLaws, FieldModel}
use Rattle.base.specs.Independence.{Passes, split_row}
use Rattle.base.specs.Nets.{Split}
use Rattle.base.specs.Tables.{TableModel}
use Rattle.base.specs.Tests.{Clean}
use Rattle.tables.specs.Directions.{coefficient, direction_of}
use Rattle.tables.specs.Record.{degree, initial, polynomial}
use Rattle.tables.specs.Sobol.{record_of, sobol_table, sobol_tests}
use Rattle.nets.specs.Zero.{FollowsPolynomial, SobolTablesFollowPolynomials, digit_above}
use Rattle.nets.proofs.AcceptedLists.{given_numbers_admissible, lowest_coefficient_one}
use Rattle.nets.proofs.SobolDigits.{sobol_digit_below, sobol_digits_follow}
use Rattle.nets.proofs.Triangular.{triangular_independent}

-- ---- tables with the same digits

module _ (F : FieldModel) (d p M : ℕ) (a b : ℕ → ℕ → ℕ) (same : (k l : ℕ) → 1 ≤ k → k ≤ M → l < M → b k l ≡ a k l) where
  above_same : (k l : ℕ) → k ≤ M → l < M → digit_above b d k l ≡ digit_above a d k l
  above_same k l u h =
      ⊎_elim
      (λ further.
      let is = lt-ltb d k further in
      cond-true (ltb d k) (b (k - d) l) 0 is ∙ same (k - d) l (omega (arith, further)) (omega (arith, u)) h
      ∙ sym (cond-true (ltb d k) (a (k - d) l) 0 is))
      (λ near.
      let is = le-ltb d k near in
      cond-false (ltb d k) (b (k - d) l) 0 is ∙ sym (cond-false (ltb d k) (a (k - d) l) 0 is))
      (cases_lt d k)

  -- digits that are the same follow from the same polynomial
  pub same_digits_follow : FollowsPolynomial F d p M a → FollowsPolynomial F d p M b
  same_digits_follow first =
      record {
        diagonal = λ l h. same (suc l) l (omega arith) h h ∙ first.diagonal l h;
        below = λ k l h u. same k l (omega (arith, h)) u (omega (arith, h, u)) ∙ first.below k l h u;
        follows = λ k l low u early h.
            same k l low u h ∙ first.follows k l low u early h
            ∙ ap₂ F.sum
            (sum_over_same F d (λ r. F.product (coefficient p (d - suc r)) (a k (l - suc r)))
            (λ r. F.product (coefficient p (d - suc r)) (b k (l - suc r)))
            (λ r v. ap (F.product (coefficient p (d - suc r))) (sym (same k (l - suc r) low u (omega (arith, h))))))
            (sym (above_same k (l - d) u (omega (arith, h))));
      }

-- ---- the digits of every coordinate

-- the digits of each coordinate of the table of an accepted list follow from its record's polynomial
pub table_follows_polynomials : (F : FieldModel) → FieldLaws F → F.q ≡ 2 → (list : List ℕ) (M : ℕ) → Clean (sobol_tests list M)
    → (j : ℕ) → j < length list / 20
    → FollowsPolynomial F (degree (record_of list j)) (polynomial (record_of list j)) M ((sobol_table list M).entry j)
table_follows_polynomials F laws two list M accepted j here =
    let bytes = record_of list j in
    sobol_digits_follow F laws two (degree bytes) (polynomial bytes) (initial bytes) (given_numbers_admissible list M accepted j here)
    (lowest_coefficient_one list M accepted j here) M

-- and so do those of every table with the same digits
pub sobol_tables_follow_polynomials : SobolTablesFollowPolynomials
sobol_tables_follow_polynomials F laws two list M accepted T same j here =
    let bytes = record_of list j in
    same_digits_follow F (degree bytes) (polynomial bytes) M ((sobol_table list M).entry j) (T.entry j)
    (λ k l low u h.
    same.entry j k l
    (record {
      coordinate = omega (arith, here, same.coordinates);
      row_least = low;
      row_most = omega (arith, u, same.digits);
      column = omega (arith, h, same.digits);
    }))
    (table_follows_polynomials F laws two list M accepted j here)

-- ---- one coordinate

module _ (F : FieldModel) (laws : FieldLaws F) (T : TableModel) (d p M : ℕ)
    (digits : (k l : ℕ) → 1 ≤ k → k ≤ M → l < M → T.entry 0 k l < F.q) (follows : FollowsPolynomial F d p M (T.entry 0)) where
  -- the rows of the only count
  split_row_is : (n i l : ℕ) → i < n → split_row T 0 (n ∷ []) i l ≡ T.entry 0 (suc i) l
  split_row_is n i l h = ap (λ row. row l) (cond-true (ltb i n) (T.entry 0 (suc i)) (λ l. 0) (lt-ltb i n h))

  -- rows that follow from a polynomial are in triangular form, so every split over their coordinate alone passes
  pub only_coordinate_passes : (m : ℕ) → m ≤ M → (counts : List ℕ) → Split 1 m counts → Passes F T m counts
  only_coordinate_passes m h [] split = absurd (omega (arith, split.0))
  only_coordinate_passes m h (n ∷ []) split =
      let whole : n + 0 ≡ m = split.1 in
      triangular_independent F laws (n + 0) m (split_row T 0 (n ∷ [])) (omega (arith, whole))
      (λ i l k v. subst (λ x. x < F.q) (sym (split_row_is n i l (omega (arith, k))))
      (digits (suc i) l (omega arith) (omega (arith, k, whole, h)) (omega (arith, v, h))))
      (λ i k. split_row_is n i i (omega (arith, k)) ∙ follows.diagonal i (omega (arith, k, whole, h)))
      (λ i l k v. split_row_is n i l (omega (arith, k)) ∙ follows.below (suc i) l (omega (arith, v)) (omega (arith, k, whole, h)))
  only_coordinate_passes m h (n ∷ k ∷ ks) split = absurd (omega (arith, split.0))

-- in the table of an accepted list of one record every split passes
pub single_sobol_splits_pass : (F : FieldModel) → FieldLaws F → F.q ≡ 2 → (list : List ℕ) (M : ℕ) → Clean (sobol_tests list M)
    → length list / 20 ≡ 1 → (m : ℕ) → m ≤ M → (counts : List ℕ) → Split (length list / 20) m counts → Passes F (sobol_table list M) m counts
single_sobol_splits_pass F laws two list M accepted one m h counts split =
    let bytes = record_of list 0 in
    only_coordinate_passes F laws (sobol_table list M) (degree bytes) (polynomial bytes) M
    (λ k l low u v. omega (arith, sobol_digit_below (direction_of bytes) k l, two))
    (table_follows_polynomials F laws two list M accepted 0 (omega (arith, one))) m h counts (split.0 ∙ one, split.1)
