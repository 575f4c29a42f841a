-- The product of a triangular matrix and a word: each digit follows from the digits read before it, so the scrambler keeps
-- its laws; and it can be done in place from the last row up.
-- Assumes nothing.
use Rattle.std.specs.Prelude.{◌≡◌, ℕ, suc, ◌+◌, ◌-◌, ◌*◌, ◌<◌, ◌≤◌, false, cond, ◌≢◌, List, [], ◌∷◌, ◌++◌, length, take, ◌==◌, slice_index, slice_set, refl}
use Rattle.std.proofs.Common.{sym, ◌∙◌, ap, subst, ⊎_elim, add-one, arith}
use Rattle.std.proofs.lemmas.List.FromFn.{get_or-map-range_with_len, length-map-range_with_len}
use Rattle.std.proofs.lemmas.List.{ext_get_or, get_or_past, get_or-set_other, get_or-set_same, get_or-take, length-set, length-take-le, take_more}
use Rattle.std.proofs.lemmas.Bool.{cases_eq, cond-false, cond-true, eq-eqb, ne_eqb}
use Rattle.base.proofs.FieldAlgebra.{product_zero_left, sum_over_same, sum_over_zeros}
use Rattle.base.specs.Fields.{FieldLaws, FieldModel, sum_over}
use Rattle.base.specs.Scramblers.{ScramblerLaws, Word}
use Rattle.base.specs.Tables.{Limits}
use Rattle.scramblers.specs.Linear.{linear_scrambler, linear_word, misplaced}
use Rattle.scramblers.specs.Prefix.{by_prefix}
use Rattle.scramblers.specs.Prefixes.{kept_by_prefix, prefix_rule_keeps_laws, scrambled_all}
use Rattle.scramblers.specs.Words.{scrambled_within}
use Rattle.scramblers.specs.Triangles.{cell, linear_rule_digit, linear_rule_one_to_one, linear_rule, matrix_above, matrix_digit}

-- the terms of row k
abbrev pub term : FieldModel → ℕ → List ℕ → ℕ → List ℕ → ℕ → ℕ → ℕ
term F M C j word k i = F.product (slice_index C (cell M j k i)) (slice_index word i)

-- in place: the digits from row k on are scrambled, and those before it are as they were
pub record ScrambledFrom (F : FieldModel) (M : ℕ) (C : List ℕ) (j : ℕ) (word : List ℕ) (k : ℕ) (now : List ℕ) : Type 0 where
  pub size : length now ≡ M
  pub done : (i : ℕ) → k ≤ i → i < M → slice_index now i ≡ sum_over F (i + 1) (term F M C j word i)
  pub left : (i : ℕ) → i < k → slice_index now i ≡ slice_index word i

pub scrambled_from_end : (F : FieldModel) (M : ℕ) (C : List ℕ) (j : ℕ) (word : List ℕ) → length word ≡ M → ScrambledFrom F M C j word M word
scrambled_from_end F M C j word size = record { size = size; done = λ i l h. absurd (omega arith); left = λ i l. refl }

-- one row more, read off the digits up to it, which are still as they were
pub scrambled_row : (F : FieldModel) (M : ℕ) (C : List ℕ) (j : ℕ) (word : List ℕ) (k row : ℕ) (now : List ℕ) (x : ℕ) → row + 1 ≡ k → k ≤ M
    → x ≡ sum_over F (row + 1) (λ i. F.product (slice_index C (cell M j row i)) (slice_index now i))
    → ScrambledFrom F M C j word k now → ScrambledFrom F M C j word row (slice_set now row x)
scrambled_row F M C j word k row now x next within is so_far =
    let low : row < length now = omega (arith, so_far.size) in
    record {
      size = length-set now row x ∙ so_far.size;
      done = λ i l h.
          ⊎_elim
          (λ e. subst (λ n. slice_index (slice_set now row x) n ≡ sum_over F (n + 1) (term F M C j word n)) (sym e)
          (get_or-set_same now row x 0 low ∙ is
          ∙ sum_over_same F (row + 1) (λ n. F.product (slice_index C (cell M j row n)) (slice_index now n)) (term F M C j word row)
          (λ n m. ap (F.product (slice_index C (cell M j row n))) (so_far.left n (omega arith)))))
          (λ ne. get_or-set_other now row i x 0 ne ∙ so_far.done i (omega arith) h) (cases_eq i row);
      left = λ i l. let ne : i ≢ row = omega arith in get_or-set_other now row i x 0 ne ∙ so_far.left i (omega arith);
    }

-- all bytes of the matrices may stand where they stand
abbrev pub Placed : ℕ → ℕ → ℕ → List ℕ → Type 0
Placed q M s C = (i : ℕ) → i < s * (M * M) → misplaced q M i (slice_index C i) ≡ false

module _ (F : FieldModel) (laws : FieldLaws F) (M s : ℕ) (C : List ℕ) (placed : Placed F.q M s C)
    (j : ℕ) (coordinate : j < s) (word : List ℕ) (is : Word F.q M word) where
  -- past the diagonal a row is 0
  pub row_to_diagonal : (k : ℕ) → k < M → sum_over F M (term F M C j word k) ≡ sum_over F (k + 1) (term F M C j word k)
  row_to_diagonal k row =
      let whole : M ≡ k + 1 + (M - (k + 1)) = omega arith in
      ap (λ n. sum_over F n (term F M C j word k)) whole
      ∙ sum_over_zeros F laws (k + 1) (M - (k + 1)) (term F M C j word k)
      (λ i l. laws.product_digit (slice_index C (cell M j k i)) (slice_index word i)
      (matrix_digit F.q M s C placed j k i coordinate row (omega arith)) (is.1 i (omega (arith, is.0))))
      (λ i l h. ap (λ x. F.product x (slice_index word i)) (matrix_above F.q M s C placed j k i coordinate row (omega arith) (omega arith))
      ∙ product_zero_left F laws (slice_index word i) (is.1 i (omega (arith, is.0))))

  row_by_rule : (k : ℕ) → k < M → sum_over F (k + 1) (term F M C j word k) ≡ linear_rule F M C j (take k word) (slice_index word k)
  row_by_rule k row =
      let size : length (take k word) ≡ k = length-take-le k word (omega (arith, is.0)) in
      let read : take k word ++ slice_index word k ∷ [] ≡ take (k + 1) word = sym (take_more word k 0 (omega (arith, is.0))) in
      ap (λ n. sum_over F n (term F M C j word k)) (add-one k)
      ∙ sum_over_same F (suc k) (term F M C j word k)
      (λ i. F.product (slice_index C (cell M j k i)) (slice_index (take k word ++ slice_index word k ∷ []) i))
      (λ i l. ap (F.product (slice_index C (cell M j k i)))
      (sym (ap (λ xs. slice_index xs i) read ∙ get_or-take (k + 1) word i 0 (omega arith))))
      ∙ ap (λ n. sum_over F (suc n) (λ i. F.product (slice_index C (cell M j n i)) (slice_index (take k word ++ slice_index word k ∷ []) i))) (sym size)

  pub linear_digit : (k : ℕ) → k < M → slice_index (linear_word F M C j word) k ≡ sum_over F (k + 1) (term F M C j word k)
  linear_digit k row =
      get_or-map-range_with_len (λ n. sum_over F M (term F M C j word n)) 0 M k k 0 row (omega arith) ∙ row_to_diagonal k row

  linear_length : length (linear_word F M C j word) ≡ M
  linear_length = length-map-range_with_len (λ n. sum_over F M (term F M C j word n)) 0 M

  pub linear_by_rule : linear_word F M C j word ≡ by_prefix (linear_rule F M C j) [] word
  linear_by_rule =
      scrambled_all (linear_rule F M C j) M word (linear_word F M C j word) (omega (arith, is.0))
      (record {
        size = linear_length ∙ sym is.0;
        done = λ k l. linear_digit k l ∙ row_by_rule k l;
        left = λ k l.
            get_or_past (linear_word F M C j word) k 0 (omega (arith, linear_length)) ∙ sym (get_or_past word k 0 (omega (arith, is.0)));
      })

  -- in place: all rows are done
  pub scrambled_up : (now : List ℕ) → ScrambledFrom F M C j word 0 now → now ≡ linear_word F M C j word
  scrambled_up now so_far =
      ext_get_or 0 now (linear_word F M C j word) (so_far.size ∙ sym linear_length)
      (λ i l. so_far.done i (omega arith) (omega (arith, so_far.size)) ∙ sym (linear_digit i (omega (arith, so_far.size))))

pub linear_keeps_laws : (F : FieldModel) → FieldLaws F → (q M s : ℕ) (C : List ℕ) → Limits q M s → Placed q M s C
    → ScramblerLaws (linear_scrambler F q M s C)
linear_keeps_laws F laws q M s C limits placed =
    ⊎_elim (λ e. subst (λ n. Limits n M s → Placed n M s C → ScramblerLaws (linear_scrambler F n M s C)) e same limits placed) other
    (cases_eq F.q q)
  where
    same : Limits F.q M s → Placed F.q M s C → ScramblerLaws (linear_scrambler F F.q M s C)
    same limits placed =
        prefix_rule_keeps_laws F.q M s (linear_rule F M C) (λ j word. cond (F.q == F.q) (linear_word F M C j word) word) limits
        (λ j u coordinate is.
        cond-true (F.q == F.q) (linear_word F M C j u) u (eq-eqb F.q F.q refl)
        ∙ linear_by_rule F laws M s C placed j coordinate u is)
        (λ j before a coordinate short digits h. linear_rule_digit F laws M s C placed j coordinate before short digits a h)
        (λ j before a b coordinate short digits h l e. linear_rule_one_to_one F laws M s C placed j coordinate before short digits a b h l e)

    other : (F.q ≢ q) → ScramblerLaws (linear_scrambler F q M s C)
    other ne =
        prefix_rule_keeps_laws q M s (λ j _ a. a) (λ j word. cond (F.q == q) (linear_word F M C j word) word) limits
        (λ j u coordinate is. cond-false (F.q == q) (linear_word F M C j u) u (ne_eqb F.q q ne) ∙ sym (kept_by_prefix [] u))
        (λ j before a coordinate short digits h. h) (λ j before a b coordinate short digits h l e. e)

-- in place: once all rows are done, the word is what the scrambler makes of it
pub linear_in_place : (F : FieldModel) → FieldLaws F → (q M s : ℕ) (C : List ℕ) (j : ℕ) (word now : List ℕ) → F.q ≡ q → Placed q M s C
    → (j < s) × Word q M word → ScrambledFrom F M C j word 0 now → now ≡ (linear_scrambler F q M s C).scramble j word
linear_in_place F laws q M s C j word now e placed' within' so_far =
    subst (λ n. Placed n M s C → (j < s) × Word n M word → now ≡ (linear_scrambler F n M s C).scramble j word) e at_own placed' within'
  where
    at_own : Placed F.q M s C → (j < s) × Word F.q M word → now ≡ (linear_scrambler F F.q M s C).scramble j word
    at_own placed within =
        scrambled_up F laws M s C placed j within.0 word within.1 now so_far
        ∙ sym (cond-true (F.q == F.q) (linear_word F M C j word) word (eq-eqb F.q F.q refl))
        ∙ sym (scrambled_within F.q M s j word (λ j word. cond (F.q == F.q) (linear_word F M C j word) word) within)
