-- The splits in their order: by the first count, then the second, and so on. Assumes nothing.
use Rattle.std.specs.Prelude.{◌≡◌, ℕ, suc, ◌+◌, ◌-◌, ◌*◌, ◌^◌, ◌<◌, ◌⊎◌, List, [], ◌∷◌, length, take}
use Rattle.base.specs.Nets.{Split}
use Rattle.base.specs.declared.splits.Splits.{Splits}

-- the counts of the split at hand
abbrev pub counts_of : Splits → List ℕ
counts_of x = take x.coordinates x.counts

-- a list of counts stands before another of the same length: at the first place where they differ it has the smaller count
abbrev pub Before : List ℕ → List ℕ → Type 0
Before [] es = ⊥
Before (d ∷ ds) [] = ⊥
Before (d ∷ ds) (e ∷ es) = (d < e) ⊎ ((d ≡ e) × Before ds es)

-- a number that falls from each split of d to any later one
abbrev pub left : ℕ → List ℕ → ℕ
left d [] = 0
left d (e ∷ es) = (d - e) * suc d ^ length es + left d es

-- every split of d but those that come later is before the present one, or is it
abbrev pub NoneAfter : ℕ → ℕ → List ℕ → Type 0
NoneAfter s d counts = (other : List ℕ) → Split s d other → Before other counts ⊎ (other ≡ counts)
