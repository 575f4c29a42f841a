-- Triangular matrices over a field: which bytes stand where, and a row's sum, in which the digit on the diagonal can be
-- told from the others.
-- Assumes nothing.
use Rattle.std.specs.Prelude.{◌≡◌, ℕ, suc, ◌+◌, ◌*◌, ◌%◌, ◌<◌, false, not, ◌&&◌, List, [], ◌∷◌, ◌++◌, length, ◌==◌, ◌≢◌, nat_le, nat_lt, slice_index, slice_index_or, refl}
use Rattle.std.proofs.Common.{sym, ◌∙◌, ap, ap₂, subst, arith}
use Rattle.std.proofs.Math.Logic.{⊎_elim}
use Rattle.std.proofs.lemmas.Nat.{div-mul-add, mod-mul-add}
use Rattle.std.proofs.lemmas.List.{get_or_append_left, get_or_at}
use Rattle.std.proofs.lemmas.Bool.{and_cases, eqb-false, leb-false, lt-ltb, not-false, eqb-true, or_parts, true≢false}
use Rattle.base.proofs.Cubes.{cube_place_below}
use Rattle.base.proofs.FieldAlgebra.{product_cancel_left, sum_cancel_left, sum_over_digit, sum_over_same}
use Rattle.base.specs.Digits.{AllDigits}
use Rattle.base.specs.Fields.{FieldLaws, FieldModel, sum_over}
use Rattle.scramblers.specs.Linear.{column_in, misplaced, row_in}

-- the place of row k and column i, both from 0, of the matrix of coordinate j
abbrev pub cell : ℕ → ℕ → ℕ → ℕ → ℕ
cell M j k i = (j * M + k) * M + i

module _ (M s j k i : ℕ) (coordinate : j < s) (row : k < M) (column : i < M) where
  pub cell_below : cell M j k i < s * (M * M)
  cell_below =
      subst (λ n. (j * M + n) * M + i < s * (M * M)) (omega arith)
      (cube_place_below M s j (k + 1) i
      (record { coordinate = coordinate; row_least = omega arith; row_most = omega arith; column = column }))

  pub row_of_cell : row_in M (cell M j k i) ≡ k
  row_of_cell = ap (λ n. n % M) (div-mul-add (j * M + k) M i column) ∙ mod-mul-add j M k row

  pub column_of_cell : column_in M (cell M j k i) ≡ i
  column_of_cell = mod-mul-add (j * M + k) M i column

-- a byte that may stand at the place i
module _ (q M i x : ℕ) (placed : misplaced q M i x ≡ false) where
  parts : (nat_le q x ≡ false) × ((row_in M i == column_in M i && x == 0) ≡ false) × ((nat_lt (row_in M i) (column_in M i) && not (x == 0)) ≡ false)
  parts =
      let p = or_parts (nat_le q x) _ placed in
      let r = or_parts (row_in M i == column_in M i && x == 0) _ p.1 in
      (p.0, r.0, r.1)

  pub placed_digit : x < q
  unfolding parts
  placed_digit = leb-false q x parts.0

  pub diagonal_not_zero : row_in M i ≡ column_in M i → x ≢ 0
  unfolding parts
  diagonal_not_zero on zero' =
      ⊎_elim (λ e. eqb-false (row_in M i) (column_in M i) e on) (λ e. eqb-false x 0 e zero')
      (and_cases (row_in M i == column_in M i) (x == 0) parts.1)

  pub zero_above_diagonal : row_in M i < column_in M i → x ≡ 0
  unfolding parts
  zero_above_diagonal above =
      ⊎_elim (λ e. absurd (true≢false (sym (lt-ltb (row_in M i) (column_in M i) above) ∙ e))) (λ e. eqb-true x 0 (not-false (x == 0) e))
      (and_cases (nat_lt (row_in M i) (column_in M i)) (not (x == 0)) parts.2)

-- all bytes of the matrices may stand where they stand
module _ (q M s : ℕ) (C : List ℕ) (placed : (i : ℕ) → i < s * (M * M) → misplaced q M i (slice_index C i) ≡ false) where
  module _ (j k i : ℕ) (coordinate : j < s) (row : k < M) (column : i < M) where
    here : misplaced q M (cell M j k i) (slice_index C (cell M j k i)) ≡ false
    here = placed (cell M j k i) (cell_below M s j k i coordinate row column)

    pub matrix_digit : slice_index_or C (cell M j k i) 0 < q
    matrix_digit = placed_digit q M (cell M j k i) (slice_index C (cell M j k i)) here

    pub matrix_above : k < i → slice_index C (cell M j k i) ≡ 0
    matrix_above above =
        zero_above_diagonal q M (cell M j k i) (slice_index C (cell M j k i)) here
        (omega (arith, row_of_cell M s j k i coordinate row column, column_of_cell M s j k i coordinate row column))

  pub matrix_diagonal : (j k : ℕ) → j < s → k < M → slice_index C (cell M j k k) ≢ 0
  matrix_diagonal j k coordinate row =
      diagonal_not_zero q M (cell M j k k) (slice_index C (cell M j k k)) (here j k k coordinate row row)
      (row_of_cell M s j k k coordinate row row ∙ sym (column_of_cell M s j k k coordinate row row))

-- a row's sum with the digits before and the digit a on the diagonal
abbrev pub linear_rule : FieldModel → ℕ → List ℕ → ℕ → List ℕ → ℕ → ℕ
linear_rule F M C j before a =
    sum_over F (suc (length before)) (λ i. F.product (slice_index C (cell M j (length before) i)) (slice_index (before ++ a ∷ []) i))

module _ (F : FieldModel) (laws : FieldLaws F) (M s : ℕ) (C : List ℕ)
    (placed : (i : ℕ) → i < s * (M * M) → misplaced F.q M i (slice_index C i) ≡ false) (j : ℕ) (coordinate : j < s)
    (before : List ℕ) (short : length before < M) (digits : AllDigits F.q before) where
  abbrev n : ℕ
  n = length before

  -- the part of the sum before the diagonal
  abbrev front : ℕ
  front = sum_over F n (λ i. F.product (slice_index C (cell M j n i)) (slice_index before i))

  front_digit : front < F.q
  front_digit =
      sum_over_digit F laws n (λ i. F.product (slice_index C (cell M j n i)) (slice_index before i))
      (λ i l. laws.product_digit (slice_index C (cell M j n i)) (slice_index before i)
      (matrix_digit F.q M s C placed j n i coordinate short (omega arith)) (digits i l))

  rule_is : (a : ℕ) → linear_rule F M C j before a ≡ F.sum front (F.product (slice_index C (cell M j n n)) a)
  rule_is a =
      ap₂ F.sum
      (sum_over_same F n (λ i. F.product (slice_index C (cell M j n i)) (slice_index (before ++ a ∷ []) i))
      (λ i. F.product (slice_index C (cell M j n i)) (slice_index before i))
      (λ i l. ap (F.product (slice_index C (cell M j n i))) (get_or_append_left before (a ∷ []) 0 i l)))
      (ap (F.product (slice_index C (cell M j n n))) (get_or_at before a [] 0 n refl))

  diagonal_digit : slice_index_or C (cell M j n n) 0 < F.q
  diagonal_digit = matrix_digit F.q M s C placed j n n coordinate short short

  pub linear_rule_digit : (a : ℕ) → a < F.q → linear_rule F M C j before a < F.q
  linear_rule_digit a h =
      rw (rule_is a) (laws.sum_digit front (F.product (slice_index C (cell M j n n)) a) front_digit
      (laws.product_digit (slice_index C (cell M j n n)) a diagonal_digit h))

  pub linear_rule_one_to_one : (a b : ℕ) → a < F.q → b < F.q → linear_rule F M C j before a ≡ linear_rule F M C j before b → a ≡ b
  linear_rule_one_to_one a b h l same =
      let d = slice_index_or C (cell M j n n) 0 in
      product_cancel_left F laws d a b diagonal_digit (matrix_diagonal F.q M s C placed j n coordinate short) h l
      (sum_cancel_left F laws front (F.product d a) (F.product d b) front_digit
      (laws.product_digit d a diagonal_digit h) (laws.product_digit d b diagonal_digit l) (sym (rule_is a) ∙ same ∙ rule_is b))
