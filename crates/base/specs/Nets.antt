-- Splits, cells and nets. Assumes nothing.
use Rattle.std.specs.Prelude.{◌≡◌, ℕ, suc, ◌+◌, ◌-◌, ◌/◌, ◌^◌, ◌<◌, ◌≤◌, Bool, true, cond, ◌&&◌, List, [], ◌∷◌, length, drop, ◌==◌, slice_index}

-- the sum of some counts
abbrev pub total : List ℕ → ℕ
total [] = 0
total (d ∷ ds) = d + total ds

-- a split of d over s coordinates gives each a count, together d
abbrev pub Split : ℕ → ℕ → List ℕ → Type 0
Split s d counts = (length counts ≡ s) × (total counts ≡ d)

-- a cell of a split fixes, in each coordinate of count d, a number below q^d
abbrev pub Cell : ℕ → List ℕ → List ℕ → Type 0
Cell q [] [] = Unit {0}
Cell q [] (v ∷ vs) = ⊥
Cell q (d ∷ ds) [] = ⊥
Cell q (d ∷ ds) (v ∷ vs) = (v < q ^ d) × Cell q ds vs

-- a point lies in a cell: in each coordinate of count d, floor(X / q^(M-d)) is the cell's number
abbrev pub in_cell : ℕ → ℕ → List ℕ → List ℕ → List ℕ → Bool
in_cell q M [] cell point = true
in_cell q M (d ∷ ds) cell point = slice_index point 0 / q ^ (M - d) == slice_index cell 0 && in_cell q M ds (drop 1 cell) (drop 1 point)

-- how many elements of a list pass, equal ones counted each
abbrev pub count : {X : Type 0} → (X → Bool) → List X → ℕ
count passes [] = 0
count passes (x ∷ xs) = cond (passes x) (suc (count passes xs)) (count passes xs)

-- each cell of a split holds exactly h of the points
abbrev pub Even : ℕ → ℕ → ℕ → List (List ℕ) → List ℕ → Type 0
Even q M h points counts = (cell : List ℕ) → Cell q counts cell → count (in_cell q M counts cell) points ≡ h

-- points of s numerators over q^M form a (t, m, s)-net: there are q^m of them, and each cell of each split of m - t holds
-- exactly q^t
pub record Net (q M s t m : ℕ) (points : List (List ℕ)) : Type 0 where
  pub size : length points ≡ q ^ m
  pub within : t ≤ m
  pub even : (counts : List ℕ) → Split s (m - t) counts → Even q M (q ^ t) points counts

-- t is the least number that has P
pub record Least (P : ℕ → Type 0) (t : ℕ) : Type 0 where
  pub holds : P t
  pub first : (u : ℕ) → u < t → P u → ⊥
