-- Digits spread over the places of a table: one place more, and what stands where. Assumes nothing.
use Rattle.std.proofs.Common.{◌≡◌, ℕ, ◌+◌, ◌-◌, ◌*◌, ◌%◌, ◌<◌, ◌≤◌, Bool, true, false, ◌&&◌, ◌≢◌, List, ◌++◌, length, get_or, set, take, drop, replicate, refl, sym, ap, ◌∙◌, subst, ⊎_elim, arith, below_more}
use Rattle.std.proofs.lemmas.List.{get_or-append_right, get_or_append_left, get_or-drop, get_or-replicate, get_or-set_same, get_or-set_other, get_or-take, get_or_past, length-replicate, length-set, length-take}
use Rattle.std.proofs.lemmas.Bool.{and_from, cases_eq, cases_lt, lt-ltb, ltb-true}
use Rattle.base.specs.Tables.{Inside}
use Rattle.tables.specs.Places.{place, coordinate_at, row_at, column_at, used}

-- of the places of s coordinates those below n hold digits that have P, as far as a table of M digits uses them, and the others hold 0
pub record Spread (q M s : ℕ) (P : ℕ → ℕ → Type 0) (n : ℕ) (entries : List ℕ) : Type 0 where
  pub size : length entries ≡ s * 1024
  pub small : (i : ℕ) → get_or entries i 0 < q
  pub spare : (i : ℕ) → used M s i ≡ false → get_or entries i 0 ≡ 0
  pub given : (i : ℕ) → i < n → used M s i ≡ true → P i (get_or entries i 0)

zeros_at : (n i : ℕ) → get_or {A = ℕ} (replicate n 0) i 0 ≡ 0
zeros_at n i =
    ⊎_elim (λ low. get_or-replicate n i 0 0 low) (λ past. get_or_past (replicate n 0) i 0 (omega (arith, length-replicate {A = ℕ} n 0))) (cases_lt i n)

zeros_before : (n i : ℕ) → get_or {A = ℕ} (take n (replicate 8192 0)) i 0 ≡ 0
zeros_before n i =
    ⊎_elim (λ low. get_or-take n (replicate 8192 0) i 0 low ∙ zeros_at 8192 i)
    (λ past. get_or_past (take n (replicate 8192 0)) i 0 (omega (arith, length-take n (replicate {A = ℕ} 8192 0)))) (cases_lt i n)

pub spread_none : (q M s : ℕ) (P : ℕ → ℕ → Type 0) → 0 < q → s ≤ 8 → Spread q M s P 0 (take (s * 1024) (replicate 8192 0))
spread_none q M s P some few =
    record {
      size = length-take (s * 1024) (replicate {A = ℕ} 8192 0) ∙ omega (arith, few, length-replicate {A = ℕ} 8192 0);
      small = λ i. rw (zeros_before (s * 1024) i) some;
      spare = λ i _. zeros_before (s * 1024) i;
      given = λ i low. absurd (omega arith);
    }

first_true : (x y : Bool) → (x && y) ≡ true → x ≡ true
first_true true y e = refl
first_true false y e = e

-- the places of all coordinates, of which those past the s in use hold 0
abbrev pub whole : ℕ → List ℕ → List ℕ
whole s entries = entries ++ drop (s * 1024) (replicate 8192 0)

module _ (q M s : ℕ) (P : ℕ → ℕ → Type 0) (n : ℕ) (entries : List ℕ) (so_far : Spread q M s P n entries) where
  whole_front : (i : ℕ) → i < s * 1024 → get_or (whole s entries) i 0 ≡ get_or entries i 0
  whole_front i low = get_or_append_left entries (drop (s * 1024) (replicate 8192 0)) 0 i (omega (arith, low, so_far.size))

  whole_rest : (i : ℕ) → s * 1024 ≤ i → get_or (whole s entries) i 0 ≡ 0
  whole_rest i past =
      get_or-append_right entries (drop (s * 1024) (replicate 8192 0)) (s * 1024) i 0 so_far.size past
      ∙ get_or-drop (s * 1024) (replicate 8192 0) (i - s * 1024) 0 ∙ zeros_at 8192 (s * 1024 + (i - s * 1024))

  pub whole_small : 0 < q → (i : ℕ) → get_or (whole s entries) i 0 < q
  whole_small some i =
      ⊎_elim (λ low. rw (whole_front i low) (so_far.small i)) (λ past. rw (whole_rest i past) some) (cases_lt i (s * 1024))

  pub whole_spare : (i : ℕ) → used M s i ≡ false → get_or (whole s entries) i 0 ≡ 0
  whole_spare i spare =
      ⊎_elim (λ low. whole_front i low ∙ so_far.spare i spare) (λ past. whole_rest i past) (cases_lt i (s * 1024))

  pub whole_given : s * 1024 ≤ n → (i : ℕ) → used M s i ≡ true → P i (get_or (whole s entries) i 0)
  whole_given end i is =
      let within : coordinate_at i < s = ltb-true _ _ (first_true _ _ is) in
      let low : i < s * 1024 = omega (arith, within) in
      rw (whole_front i low) (so_far.given i (omega (arith, low, end)) is)

-- one place more, with a digit that has P where the table uses the place, and 0 where it does not
pub spread_more : (q M s : ℕ) (P : ℕ → ℕ → Type 0) (n : ℕ) (entries : List ℕ) (v : ℕ) → n < length entries → v < q
    → (used M s n ≡ true → P n v) → (used M s n ≡ false → v ≡ 0) → Spread q M s P n entries → Spread q M s P (n + 1) (set entries n v)
spread_more q M s P n entries v room low has none so_far =
    let other : (i : ℕ) → i ≢ n → get_or (set entries n v) i 0 ≡ get_or entries i 0 = λ i ne. get_or-set_other entries n i v 0 ne in
    let same : get_or (set entries n v) n 0 ≡ v = get_or-set_same entries n v 0 room in
    record {
      size = length-set entries n v ∙ so_far.size;
      small = λ i.
          ⊎_elim (λ e. subst (λ k. get_or (set entries n v) k 0 < q) (sym e) (rw same low)) (λ ne. rw (other i ne) (so_far.small i)) (cases_eq i n);
      spare = λ i spare.
          ⊎_elim (λ e. ap (λ k. get_or (set entries n v) k 0) e ∙ same ∙ none (ap (used M s) (sym e) ∙ spare))
          (λ ne. other i ne ∙ so_far.spare i spare) (cases_eq i n);
      given = below_more (λ i. used M s i ≡ true → P i (get_or (set entries n v) i 0)) n
          (λ i below used. let ne : i ≢ n = omega arith in rw (other i ne) (so_far.given i below used))
          (λ used. rw same (has used));
    }

-- the place of a row and a column is one of the table's
module _ (M s j k l : ℕ) (narrow : M ≤ 32) (few : s ≤ 8) (inside : Inside M s j k l) where
  pub place_below : place j k l < 8192
  place_below = omega arith

  pub place_coordinate : coordinate_at (place j k l) ≡ j
  place_coordinate = omega arith

  pub place_row : row_at (place j k l) ≡ k
  place_row = omega arith

  pub place_column : column_at (place j k l) ≡ l
  place_column = omega arith

  pub place_used : used M s (place j k l) ≡ true
  place_used =
      and_from _ _ (lt-ltb (coordinate_at (place j k l)) s (omega arith))
      (and_from _ _ (lt-ltb (place j k l % 32) M (omega arith)) (lt-ltb (column_at (place j k l)) M (rw place_column inside.column)))
