-- A search over the splits of a number: if each split has a property or not, then all have it, or one is found that does not.
-- Assumes nothing.
use Rattle.std.proofs.Common.{◌≡◌, ℕ, zero, suc, ◌-◌, ◌<◌, ◌≤◌, ◌⊎◌, List, [], ◌∷◌, refl, subst, inl, inr, ⊎_elim, arith}
use Rattle.std.proofs.lemmas.Bool.{cases_eq}
use Rattle.base.specs.Nets.{Split}

-- below n, P holds everywhere or X is had
all_below_or : (n : ℕ) (P : ℕ → Type 0) (X : Type 0) → ((i : ℕ) → i < n → P i ⊎ X) → ((i : ℕ) → i < n → P i) ⊎ X
all_below_or zero P X each = inl (λ i h. elim h [ ])
all_below_or (suc n) P X each =
    ⊎_elim
    (λ before. ⊎_elim
    (λ here. inl (λ i h. ⊎_elim
    (λ e. let last : n ≡ i = omega (arith, e) in subst P last here) (λ ne. before i (omega (arith, h, ne))) (cases_eq i n)))
    inr (each n (omega arith)))
    inr
    (all_below_or n P X (λ i h. each i (omega (arith, h))))

-- every split of d over s coordinates has P
abbrev pub Every : ℕ → ℕ → (List ℕ → Type 0) → Type 0
Every s d P = (counts : List ℕ) → Split s d counts → P counts

-- some split of d over s coordinates does not
abbrev pub SomeNot : ℕ → ℕ → (List ℕ → Type 0) → Type 0
SomeNot s d P = (counts : List ℕ) × Split s d counts × (P counts → ⊥)

pub every_split_or_some_not : (s d : ℕ) (P : List ℕ → Type 0)
    → ((counts : List ℕ) → Split s d counts → P counts ⊎ (P counts → ⊥)) → Every s d P ⊎ SomeNot s d P
every_split_or_some_not zero d P decided =
    ⊎_elim
    (λ none. ⊎_elim (λ here. inl (only here)) (λ not. inr ([], (refl, none), not)) (decided [] (refl, none)))
    (λ some. inl (impossible some))
    (cases_eq 0 d)
  where
    only : P [] → Every 0 d P
    only here [] split = here
    only here (e ∷ es) split = let no : 1 ≤ 0 = omega (arith, split.0) in elim no [ ]

    impossible : (0 ≡ d → ⊥) → Every 0 d P
    impossible some [] split = absurd (some split.1)
    impossible some (e ∷ es) split = let no : 1 ≤ 0 = omega (arith, split.0) in elim no [ ]
every_split_or_some_not (suc s) d P decided =
    ⊎_elim (λ each. inl (together each)) inr
    (all_below_or (suc d) (λ e. Every s (d - e) (λ es. P (e ∷ es))) (SomeNot (suc s) d P)
    (λ e h. ⊎_elim inl
    (λ found. inr (e ∷ found.0, with_first e found.0 h found.1, found.2))
    (every_split_or_some_not s (d - e) (λ es. P (e ∷ es)) (λ es split. decided (e ∷ es) (with_first e es h split)))))
  where
    with_first : (e : ℕ) (es : List ℕ) → e < suc d → Split s (d - e) es → Split (suc s) d (e ∷ es)
    with_first e es h split = (omega (arith, split.0), omega (arith, split.1, h))

    together : ((e : ℕ) → e < suc d → Every s (d - e) (λ es. P (e ∷ es))) → Every (suc s) d P
    together each [] split = let no : 1 ≤ 0 = omega (arith, split.0) in elim no [ ]
    together each (e ∷ es) split = each e (omega (arith, split.1)) es (omega (arith, split.0), omega (arith, split.1))
