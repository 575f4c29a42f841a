-- The splits in their order. A split steps to another where one goes from its last count that is not 0 to the one before
-- it, and what is left of that count to the last place: then it stands before the other, with none between. None stands
-- before the split with all in the last count, none after the one with all in the first, and `left` falls with the order.
-- Assumes nothing.
use Rattle.std.proofs.Common.{◌≡◌, ℕ, zero, suc, ◌+◌, ◌-◌, ◌*◌, ◌^◌, ◌<◌, ◌≤◌, ◌≢◌, ◌⊎◌, List, [], ◌∷◌, length, get_or, take, set, replicate, sym, refl, ap, ◌∙◌, subst, ap₂, inl, inr, ⊎_elim, pow-suc, arith}
use native.Mathlib.Nat.{pow-zero}
use lib.Seq.{take-set-lt}
use Rattle.std.proofs.lemmas.Nat.{mul-add-lt}
use Rattle.std.proofs.lemmas.List.{get_or-replicate, get_or-set_other, get_or-set_same, get_or-take, length-replicate, length-set, length-take-le, take-replicate}
use Rattle.std.proofs.lemmas.Bool.{cases_eq, cases_lt}
use Rattle.base.specs.Nets.{Split, total}
use Rattle.base.specs.Splits.{Before, left}

-- the counts past a place are 0
abbrev pub EmptyPast : ℕ → List ℕ → Type 0
EmptyPast p xs = (k : ℕ) → p < k → k < length xs → get_or xs k 0 ≡ 0

-- all is in the last count
abbrev pub AllLast : List ℕ → Type 0
AllLast xs = (k : ℕ) → suc k < length xs → get_or xs k 0 ≡ 0

total_set : (xs : List ℕ) (i v : ℕ) → i < length xs → total (set xs i v) + get_or xs i 0 ≡ total xs + v
total_set [] i v h = absurd (omega arith)
total_set (x ∷ xs) zero v h = omega arith
total_set (x ∷ xs) (suc i) v h = omega (arith, total_set xs i v (omega arith))

two_places : (xs : List ℕ) (i j : ℕ) → i < length xs → j < length xs → j ≢ i → get_or xs i 0 + get_or xs j 0 ≤ total xs
two_places xs i j hi hj ne =
    omega (
      arith,
      total_set xs i 0 hi,
      total_set (set xs i 0) j 0 (omega (arith, length-set xs i 0)),
      get_or-set_other xs i j 0 0 ne,
    )

total_empty : (xs : List ℕ) → ((k : ℕ) → k < length xs → get_or xs k 0 ≡ 0) → total xs ≡ 0
total_empty [] h = refl
total_empty (x ∷ xs) h = omega (arith, h 0 (omega arith), total_empty xs (λ k l. h (suc k) (omega arith)))

same_empty : (xs ys : List ℕ) → length xs ≡ length ys → total xs ≡ 0 → total ys ≡ 0 → xs ≡ ys
same_empty [] [] l a b = refl
same_empty [] (y ∷ ys) l a b = absurd (omega arith)
same_empty (x ∷ xs) [] l a b = absurd (omega arith)
same_empty (x ∷ xs) (y ∷ ys) l a b =
    ap₂ ◌∷◌ (omega arith) (same_empty xs ys (omega arith) (omega arith) (omega arith))

all_last_set : (xs : List ℕ) (last v : ℕ) → suc last ≡ length xs → AllLast xs → AllLast (set xs last v)
all_last_set xs last v n a k l =
    let below : suc k < length xs = omega (arith, length-set xs last v) in
    get_or-set_other xs last k v 0 (omega arith) ∙ a k below

-- zeros with a number at the last place
pub first_all_last : (m n v : ℕ) → 1 ≤ n → n ≤ m → AllLast (take n (set (replicate m 0) (n - 1) v))
first_all_last m n v some few =
    subst AllLast
    (ap (λ xs. set xs (n - 1) v) (sym (take-replicate n m 0 few)) ∙ sym (take-set-lt n (replicate m 0) (n - 1) v (omega arith)))
    (all_last_set (replicate n 0) (n - 1) v (simp length-replicate (omega arith))
    (λ k h. get_or-replicate n k 0 0 (omega (arith, simp length-replicate at h))))

pub none_before_all_last : (xs other : List ℕ) → AllLast xs → Split (length xs) (total xs) other → Before other xs → ⊥
none_before_all_last [] [] a s b = b
none_before_all_last [] (o ∷ os) a s b = b
none_before_all_last (x ∷ xs) [] a s b = b
none_before_all_last (x ∷ xs) (o ∷ os) a s (inl less) =
    ⊎_elim
    (λ more. omega (arith, a 0 (omega arith)))
    (λ none. omega (arith, total_empty os (λ k l. absurd (omega arith))))
    (cases_lt 0 (length xs))
none_before_all_last (x ∷ xs) (o ∷ os) a s (inr h) =
    none_before_all_last xs os (λ k l. a (suc k) (omega arith)) (omega arith) h.1

-- equal first counts leave it to the others
behind : (x o : ℕ) (xs os : List ℕ) → o ≡ x → Before os xs ⊎ (os ≡ xs) → Before (o ∷ os) (x ∷ xs) ⊎ (o ∷ os ≡ x ∷ xs)
behind x o xs os e (inl b) = inl (inr (e, b))
behind x o xs os e (inr s) = inr (ap₂ ◌∷◌ e s)

pub none_after_all_first : (xs other : List ℕ) → EmptyPast 0 xs → Split (length xs) (total xs) other
    → Before other xs ⊎ (other ≡ xs)
none_after_all_first [] [] e s = inr refl
none_after_all_first [] (o ∷ os) e s = absurd (omega arith)
none_after_all_first (x ∷ xs) [] e s = absurd (omega arith)
none_after_all_first (x ∷ xs) (o ∷ os) e s =
    let rest : total xs ≡ 0 = total_empty xs (λ k l. e (suc k) (omega arith) (omega arith)) in
    ⊎_elim
    (λ less. inl (inl less))
    (λ more. behind x o xs os (omega arith) (inr (same_empty os xs (omega arith) (omega arith) rest)))
    (cases_lt o x)

-- where the two first differ the second has one more; behind that place the first has all in the next count, the second all
-- in the last
abbrev pub Steps : List ℕ → List ℕ → Type 0
Steps [] ys = ⊥
Steps (x ∷ xs) [] = ⊥
Steps (x ∷ xs) (y ∷ ys) = ((y ≡ x) × Steps xs ys) ⊎ ((y ≡ suc x) × EmptyPast 0 xs × AllLast ys)

pub steps_before : (xs ys : List ℕ) → Steps xs ys → Before xs ys
steps_before [] ys s = s
steps_before (x ∷ xs) [] s = s
steps_before (x ∷ xs) (y ∷ ys) (inl s) = inr (sym s.0, steps_before xs ys s.1)
steps_before (x ∷ xs) (y ∷ ys) (inr s) = inl (omega arith)

pub none_between : (xs ys other : List ℕ) → Steps xs ys → Split (length xs) (total xs) ys
    → Split (length xs) (total xs) other → Before other ys → Before other xs ⊎ (other ≡ xs)
none_between [] ys other s t u b = absurd s
none_between (x ∷ xs) [] other s t u b = absurd s
none_between (x ∷ xs) (y ∷ ys) [] s t u b = absurd b
none_between (x ∷ xs) (y ∷ ys) (o ∷ os) (inl s) t u (inl b) = inl (inl (omega arith))
none_between (x ∷ xs) (y ∷ ys) (o ∷ os) (inl s) t u (inr b) =
    behind x o xs os (b.0 ∙ s.0) (none_between xs ys os s.1 (omega arith) (omega arith) b.1)
none_between (x ∷ xs) (y ∷ ys) (o ∷ os) (inr s) t u (inl b) =
    ⊎_elim
    (λ less. inl (inl less))
    (λ more. behind x o xs os (omega arith) (none_after_all_first xs os s.1 (omega arith)))
    (cases_lt o x)
none_between (x ∷ xs) (y ∷ ys) (o ∷ os) (inr s) t u (inr b) =
    absurd (none_before_all_last ys os s.2 (omega arith) b.1)

-- with the count at a place taken, the counts from there on are 0
emptied : (xs : List ℕ) (p k : ℕ) → EmptyPast p xs → p ≤ k → k < length xs → get_or (set xs p 0) k 0 ≡ 0
emptied xs p k e l h =
    ⊎_elim
    (λ same. subst (λ i. get_or (set xs p 0) i 0 ≡ 0) (sym same) (get_or-set_same xs p 0 0 (omega arith)))
    (λ other. get_or-set_other xs p k 0 0 other ∙ e k (omega arith) h)
    (cases_eq k p)

-- what the code does to the counts is a step
sets_step : (p last v : ℕ) (xs : List ℕ) → p < last → suc last ≡ length xs → EmptyPast (suc p) xs
    → Steps xs (set (set (set xs (suc p) 0) last v) p (suc (get_or xs p 0)))
sets_step p zero v xs l n e = absurd (omega arith)
sets_step p (suc last) v [] l n e = absurd (omega arith)
sets_step zero (suc last) v (x ∷ xs) l n e =
    let past : EmptyPast 0 xs = λ k low high. e (suc k) (omega arith) (omega arith) in
    inr (
      refl,
      past,
      all_last_set (set xs 0 0) last v (omega (arith, length-set xs 0 0))
          (λ k high. emptied xs 0 k past (omega arith) (omega (arith, length-set xs 0 0))),
    )
sets_step (suc p) (suc last) v (x ∷ xs) l n e =
    inl (refl, sets_step p last v xs (omega arith) (omega arith) (λ k low high. e (suc k) (omega arith) (omega arith)))

left_below : (d : ℕ) (xs : List ℕ) → left d xs < suc d ^ length xs
left_below d [] = omega (arith, pow-zero (suc d))
left_below d (x ∷ xs) =
    omega (
      arith,
      mul-add-lt (d - x) (suc d ^ length xs) (left d xs) (suc d) (omega arith) (left_below d xs),
      pow-suc (suc d) (length xs),
    )

pub left_falls : (d : ℕ) (xs ys : List ℕ) → length xs ≡ length ys → total ys ≤ d → Before xs ys → left d ys < left d xs
left_falls d [] ys l h b = absurd b
left_falls d (x ∷ xs) [] l h b = absurd b
left_falls d (x ∷ xs) (y ∷ ys) l h (inl b) =
    let same : length xs ≡ length ys = omega arith in
    omega (
      arith,
      mul-add-lt (d - y) (suc d ^ length ys) (left d ys) (d - x) (omega arith) (left_below d ys),
      ap (λ n. (d - x) * suc d ^ n) same,
    )
left_falls d (x ∷ xs) (y ∷ ys) l h (inr b) =
    let same : length xs ≡ length ys = omega arith in
    omega (arith, ap₂ (λ e n. (d - e) * suc d ^ n) b.0 same, left_falls d xs ys same (omega arith) b.1)

-- a place above the first that gives something, with only zeros past it
pub record Giver (n place : ℕ) (counts : List ℕ) : Type 0 where
  pub enough : n ≤ length counts
  pub above : 0 < place
  pub inside : place < n
  pub empty : (k : ℕ) → place < k → k < n → get_or counts k 0 ≡ 0
  pub gives : 0 < get_or counts place 0

-- all that the place gives is taken, and all but one of it goes to the last place
abbrev pub taken : ℕ → ℕ → List ℕ → List ℕ
taken n place counts = set (set counts place 0) (n - 1) (get_or counts place 0 - 1)

-- and one to the place before
abbrev pub stepped : ℕ → ℕ → List ℕ → List ℕ
stepped n place counts = set (taken n place counts) (place - 1) (get_or (taken n place counts) (place - 1) 0 + 1)

module _ (n place : ℕ) (counts : List ℕ) (g : Giver n place counts) where
  -- the counts of the coordinates
  abbrev xs : List ℕ
  xs = take n counts

  size : length xs ≡ n
  size = length-take-le n counts g.enough

  -- they stand in the array
  at : (k : ℕ) → k < n → get_or xs k 0 ≡ get_or counts k 0
  at k h = get_or-take n counts k 0 h

  empty_past : EmptyPast place xs
  empty_past k low high = at k (omega (arith, size)) ∙ g.empty k low (omega (arith, size))

  -- the place before still has its count
  kept : (ys : List ℕ) (v : ℕ) → get_or (set (set ys place 0) (n - 1) v) (place - 1) 0 ≡ get_or ys (place - 1) 0
  kept ys v =
      get_or-set_other (set ys place 0) (n - 1) (place - 1) v 0 (omega arith)
      ∙ get_or-set_other ys place (place - 1) 0 0 (omega arith)

  stepped_is : take n (stepped n place counts)
      ≡ set (set (set xs place 0) (n - 1) (get_or counts place 0 - 1)) (place - 1) (suc (get_or xs (place - 1) 0))
  stepped_is =
      let v = get_or counts place 0 - 1 in
      let more : get_or (taken n place counts) (place - 1) 0 + 1 ≡ suc (get_or xs (place - 1) 0) =
      omega (arith, kept counts v, at (place - 1) (omega arith)) in
      take-set-lt n (taken n place counts) (place - 1) (get_or (taken n place counts) (place - 1) 0 + 1) (omega arith)
      ∙ ap₂ (λ ys a. set ys (place - 1) a)
      (take-set-lt n (set counts place 0) (n - 1) v (omega arith)
      ∙ ap (λ ys. set ys (n - 1) v) (take-set-lt n counts place 0 (omega arith)))
      more

  pub stepped_steps : Steps xs (take n (stepped n place counts))
  stepped_steps =
      let v = get_or counts place 0 - 1 in
      let p : suc (place - 1) ≡ place = omega arith in
      rw stepped_is
      (subst (λ k. EmptyPast k xs → Steps xs (set (set (set xs k 0) (n - 1) v) (place - 1) (suc (get_or xs (place - 1) 0)))) p
      (sets_step (place - 1) (n - 1) v xs (omega arith) (omega (arith, size))) empty_past)

  pub stepped_split : Split (length xs) (total xs) (take n (stepped n place counts))
  stepped_split =
      let v = get_or counts place 0 - 1 in
      let ys = set xs place 0 in
      let a = suc (get_or xs (place - 1) 0) in
      let in_ys : n ≡ length ys = omega (arith, size, length-set xs place 0) in
      let in_zs : n ≡ length (set ys (n - 1) v) = omega (arith, length-set ys (n - 1) v) in
      rw stepped_is (
        simp length-set,
        omega (
          arith,
          at place (omega arith),
          kept xs v,
          emptied xs place (n - 1) empty_past (omega arith) (omega (arith, size)),
          total_set xs place 0 (omega (arith, size)),
          total_set ys (n - 1) v (omega arith),
          total_set (set ys (n - 1) v) (place - 1) a (omega arith),
        ),
      )

  pub before_fits : get_or (taken n place counts) (place - 1) 0 + 1 ≤ total xs
  before_fits =
      omega (
        arith,
        kept counts (get_or counts place 0 - 1),
        at (place - 1) (omega arith),
        at place (omega arith),
        two_places xs place (place - 1) (omega (arith, size)) (omega (arith, size)) (omega arith),
      )
