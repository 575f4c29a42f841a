-- The verdict by computation: one test that goes through all splits of a number, and for each split through all coefficients of its
-- rows. Each part of it is true exactly if what it tests holds. Assumes nothing.
use Rattle.std.proofs.Common.{◌≡◌, ℕ, zero, suc, ◌-◌, ◌<◌, ◌≤◌, Bool, true, false, not, ◌&&◌, ◌||◌, eqb, leb, ◌⊎◌, List, [], ◌∷◌, get_or, map, sym, refl, ap, ◌∙◌, subst, inl, inr, ⊎_elim, arith}
use Rattle.std.proofs.lemmas.Bool.{and_parts, cases_Bool, false≢true, leb-true, not-true}
use Rattle.std.proofs.lemmas.Bool.Decides.{Decides-below_and, Decides-eqb, Decides-like, not_from_Decides}
use Rattle.std.proofs.lemmas.List.FromFn.{get_or-map-range_with_len, length-map-range_with_len}
use Rattle.std.specs.Bool.{Decides}
use Rattle.std.specs.List.{range_with_len}
use Rattle.base.proofs.FieldAlgebra.{sum_over_same}
use Rattle.base.specs.Fields.{FieldModel, sum_over}
use Rattle.base.specs.Independence.{FirstPassing, Independent, Passes, split_row}
use Rattle.base.specs.Nets.{Split, total}
use Rattle.base.specs.Scramblers.{Word}
use Rattle.base.specs.Tables.{TableModel}
use Rattle.fields.specs.Tested.{all, all_at}
use Rattle.nets.proofs.Numbers.{word_cons, word_head, word_tail}
use Rattle.nets.proofs.SplitSearch.{every_split_or_some_not}

-- a test of "if P then Q", from tests of P and Q
Decides-if : {P Q : Type 0} (x y : Bool) → Decides x P → Decides y Q → Decides (not x || y) (P → Q)
Decides-if true y p q = (λ t h. q.0 t, λ f. q.1 (f (p.0 refl)))
Decides-if false y p q = (λ t h. absurd (false≢true (p.1 h)), λ f. refl)

-- and so P holds or does not
decided : {P : Type 0} (r : Bool) → Decides r P → P ⊎ (P → ⊥)
decided r d = ⊎_elim (λ t. inl (d.0 t)) (λ f. inr (not_from_Decides r d f)) (cases_Bool r)

-- ---- all words

module _ (q : ℕ) where
  -- a test passes at every word of k digits below q
  abbrev pub every_word : ℕ → (List ℕ → Bool) → Bool
  every_word zero p = p []
  every_word (suc k) p = all q (λ x. every_word k (λ xs. p (x ∷ xs)))

  Decides-every_word : (k : ℕ) (p : List ℕ → Bool) (P : List ℕ → Type 0) → ((w : List ℕ) → Decides (p w) (P w))
      → Decides (every_word k p) ((w : List ℕ) → Word q k w → P w)
  Decides-every_word zero p P each = Decides-like (p []) only (λ h. h [] (refl, λ i l. elim l [ ])) (each [])
    where
      only : P [] → (w : List ℕ) → Word q 0 w → P w
      only h [] word = h
      only h (x ∷ xs) word = absurd (omega (arith, word.0))
  Decides-every_word (suc k) p P each =
      Decides-like (every_word (suc k) p) together apart
      (Decides-below_and (λ x. every_word k (λ xs. p (x ∷ xs))) (λ x. (xs : List ℕ) → Word q k xs → P (x ∷ xs))
      (λ n. all n (λ x. every_word k (λ xs. p (x ∷ xs))))
      (λ x. Decides-every_word k (λ xs. p (x ∷ xs)) (λ xs. P (x ∷ xs)) (λ xs. each (x ∷ xs))) refl (λ n. refl) q)
    where
      together : ((x : ℕ) → x < q → (xs : List ℕ) → Word q k xs → P (x ∷ xs)) → (w : List ℕ) → Word q (suc k) w → P w
      together h [] word = absurd (omega (arith, word.0))
      together h (x ∷ xs) word = h x (word_head q k x xs word) xs (word_tail q k x xs word)

      apart : ((w : List ℕ) → Word q (suc k) w → P w) → (x : ℕ) → x < q → (xs : List ℕ) → Word q k xs → P (x ∷ xs)
      apart h x l xs word = h (x ∷ xs) (word_cons q k x xs l word)

-- ---- independence

-- f is 0 at every number below n
abbrev AllZero : ℕ → (ℕ → ℕ) → Type 0
AllZero n f = (i : ℕ) → i < n → f i ≡ 0

abbrev pub all_zero : ℕ → (ℕ → ℕ) → Bool
all_zero n f = all n (λ i. eqb (f i) 0)

Decides-all_zero : (n : ℕ) (f : ℕ → ℕ) → Decides (all_zero n f) (AllZero n f)
Decides-all_zero n f = Decides-below_and (λ i. eqb (f i) 0) (λ i. f i ≡ 0) (λ k. all_zero k f) (λ i. Decides-eqb (f i) 0) refl (λ k. refl) n

-- the coefficients in a list
abbrev pub at : List ℕ → ℕ → ℕ
at w i = get_or w i 0

module _ (F : FieldModel) (D m : ℕ) (A : ℕ → ℕ → ℕ) where
  -- column l of the combination of D rows
  abbrev pub column : (ℕ → ℕ) → ℕ → ℕ
  column c l = sum_over F D (λ i. F.product (c i) (A i l))

  -- if each column of their combination is 0, the coefficients are all 0
  abbrev pub harmless : List ℕ → Bool
  harmless w = not (all_zero m (column (at w))) || all_zero D (at w)

  -- each word of coefficients is harmless
  abbrev pub independent : Bool
  independent = every_word F.q D harmless

  Decides-independent : Decides independent (Independent F D m A)
  Decides-independent =
      Decides-like independent from_words to_words
      (Decides-every_word F.q D harmless (λ w. AllZero m (column (at w)) → AllZero D (at w))
      (λ w. Decides-if (all_zero m (column (at w))) (all_zero D (at w)) (Decides-all_zero m (column (at w))) (Decides-all_zero D (at w))))
    where
      from_words : ((w : List ℕ) → Word F.q D w → AllZero m (column (at w)) → AllZero D (at w)) → Independent F D m A
      from_words words c digits vanish i h =
          let w = map c (range_with_len 0 D) in
          let long = length-map-range_with_len c 0 D in
          let same : (i : ℕ) → i < D → at w i ≡ c i = λ i k. get_or-map-range_with_len c 0 D i i 0 k (omega arith) in
          let word : Word F.q D w =
          (long, λ i k. let l : i < D = omega (arith, k, long) in subst (λ x. x < F.q) (sym (same i l)) (digits i l)) in
          sym (same i h)
          ∙ words w word
          (λ l k. sum_over_same F D (λ i. F.product (at w i) (A i l)) (λ i. F.product (c i) (A i l))
          (λ i j. ap (λ x. F.product x (A i l)) (same i j)) ∙ vanish l k) i h

      to_words : Independent F D m A → (w : List ℕ) → Word F.q D w → AllZero m (column (at w)) → AllZero D (at w)
      to_words free w word vanish = free (at w) (λ i h. word.1 i (omega (arith, h, word.0))) vanish

-- ---- splits

-- no count is more than their total
count_within : (counts : List ℕ) (i : ℕ) → get_or counts i 0 ≤ total counts
count_within [] i = omega arith
count_within (d ∷ ds) zero = omega arith
count_within (d ∷ ds) (suc i) = omega (arith, count_within ds i)

module _ (F : FieldModel) (T : TableModel) (m : ℕ) where
  -- the rows of some counts are independent
  abbrev pub passes : List ℕ → Bool
  passes counts = independent F (total counts) m (split_row T 0 counts)

  Decides-passes : (counts : List ℕ) → Decides (passes counts) (Passes F T m counts)
  Decides-passes counts = Decides-independent F (total counts) m (split_row T 0 counts)

  -- every split of d passes: the splits are those words of counts up to d that come to d together
  abbrev pub all_pass : ℕ → Bool
  all_pass d = every_word (suc d) T.coordinates (λ counts. not (eqb (total counts) d) || passes counts)

  Decides-all_pass : (d : ℕ) → Decides (all_pass d) ((counts : List ℕ) → Split T.coordinates d counts → Passes F T m counts)
  Decides-all_pass d =
      Decides-like (all_pass d)
      (λ h counts split. h counts (split.0, λ i l. omega (arith, count_within counts i, split.1)) split.1)
      (λ h counts word whole. h counts (word.0, whole))
      (Decides-every_word (suc d) T.coordinates (λ counts. not (eqb (total counts) d) || passes counts)
      (λ counts. total counts ≡ d → Passes F T m counts)
      (λ counts. Decides-if (eqb (total counts) d) (passes counts) (Decides-eqb (total counts) d) (Decides-passes counts)))

  -- for each u below t some split of m - u does not pass
  abbrev pub none_before : ℕ → Bool
  none_before t = all t (λ u. not (all_pass (m - u)))

  fails_at : (u : ℕ) → not (all_pass (m - u)) ≡ true → (counts : List ℕ) × Split T.coordinates (m - u) counts × (Passes F T m counts → ⊥)
  fails_at u h =
      ⊎_elim
      (λ each. absurd (not_from_Decides (all_pass (m - u)) (Decides-all_pass (m - u)) (not-true (all_pass (m - u)) h) each))
      (λ found. found)
      (every_split_or_some_not T.coordinates (m - u) (Passes F T m) (λ counts split. decided (passes counts) (Decides-passes counts)))

  -- t is the first whose splits all pass
  abbrev pub is_first : ℕ → Bool
  is_first t = leb t m && (all_pass (m - t) && none_before t)

  pub first_passing_from_test : (t : ℕ) → is_first t ≡ true → FirstPassing F T m t
  first_passing_from_test t h =
      let parts = and_parts (leb t m) (all_pass (m - t) && none_before t) h in
      let rest = and_parts (all_pass (m - t)) (none_before t) parts.1 in
      record {
        within = leb-true t m parts.0;
        passes = (Decides-all_pass (m - t)).0 rest.0;
        fails = λ u l. fails_at u (all_at t (λ u. not (all_pass (m - u))) rest.1 u l);
      }
