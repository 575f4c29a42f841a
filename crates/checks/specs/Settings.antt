-- Travel scaling. Assumes nothing.
use Rattle.std.specs.Prelude.{◌≡◌, ℕ, ◌+◌, ◌-◌, ◌*◌, ◌/◌, ◌^◌, ◌<◌, ◌≤◌, List, [], ◌∷◌, ◌++◌, length, slice_index, slice_index_or}
use Rattle.std.specs.List.{AllByRecursion}
use Rattle.base.specs.Digits.{digit_tests}
use Rattle.base.specs.Faults.{refusal}
use Rattle.base.specs.Tables.{Limits}
use Rattle.base.specs.Tests.{Test, test}
use Rattle.checks.specs.declared.travel.Travel.{Travel}

-- the setting of the numerator X of Q positions, between the limits of a travel: low + floor(X span / Q)
abbrev pub setting : ℕ → ℕ → ℕ → ℕ → ℕ
setting Q low span X = low + X * span / Q

-- a travel has a count, and none above 65,535
abbrev pub TravelFits : Travel → Type 0
TravelFits t = (1 ≤ t.span) × (t.low + t.span ≤ 65536)

-- each travel of a list does
abbrev pub AllTravel : List Travel → Type 0
AllTravel travel = AllByRecursion TravelFits travel

-- one setting is that of its numerator, and lies from the low count of its travel to the last
pub record Scales (Q : ℕ) (t : Travel) (X y : ℕ) : Type 0 where
  pub value : y ≡ setting Q t.low t.span X
  pub least : t.low ≤ y
  pub most : y ≤ t.low + t.span - 1

-- the first n settings are those of their numerators and travels
abbrev pub Scaled : ℕ → ℕ → List ℕ → List Travel → List ℕ → Type 0
Scaled Q n numerators travel settings =
    (j : ℕ) (t : Travel) → j < n → Scales Q (slice_index_or travel j t) (slice_index numerators j) (slice_index settings j)

-- a setting grows with its numerator
abbrev pub Grows : Type 0
Grows = (Q low span X Y : ℕ) → X ≤ Y → setting Q low span X ≤ setting Q low span Y

-- the tests of scaling: q, M and s; the three lengths; each numerator; each travel
abbrev pub travel_tests : ℕ → ℕ → ℕ → List ℕ → List Travel → ℕ → List Test
travel_tests q M s numerators travel out =
    test (Limits q M s → ⊥) (refusal 2 5 255 0)
    ∷ test ((length numerators ≡ s) × (length travel ≡ s) × (out ≡ s) → ⊥) (refusal 3 5 255 0)
    ∷ digit_tests (q ^ M) 5 numerators ++ test (AllTravel travel → ⊥) (refusal 8 5 255 0) ∷ []
