-- The order of testing: a call is refused by the first of its tests that finds a fault. Assumes nothing.
use Rattle.std.specs.Prelude.{◌≡◌, ℕ, zero, suc, ◌⊎◌, List, [], ◌∷◌, ◌++◌, Ok, Err, Result}
use Rattle.base.specs.declared.faults.Fault.{Fault}
use Rattle.base.specs.Faults.{Refusal, stated}

-- a condition, and the refusal where it holds
pub record Test : Type 1 where
  pub found : Type 0
  pub gives : Refusal

-- a test from its two parts
abbrev pub test : Type 0 → Refusal → Test
test found gives = record { found = found; gives = gives }

-- no test finds a fault
abbrev pub Clean : List Test → Type 0
Clean [] = Unit {0}
Clean (t ∷ ts) = (t.found → ⊥) × Clean ts

-- the first test that finds a fault gives r
abbrev pub Refused : List Test → Refusal → Type 0
Refused [] r = ⊥
Refused (t ∷ ts) r = (t.found × (r ≡ t.gives)) ⊎ ((t.found → ⊥) × Refused ts r)

-- the tests of n places in turn, from the place a on
abbrev pub in_turn : (ℕ → List Test) → ℕ → ℕ → List Test
in_turn at a zero = []
in_turn at a (suc n) = at a ++ in_turn at (suc a) n

-- a call answers Ok, with a value that has P, exactly where no test finds a fault,
-- and is refused otherwise, with the fault of the first that finds one
abbrev pub Gives : {T : Type 0} → List Test → Result T Fault → (T → Type 0) → Type 0
Gives tests (Ok x) P = Clean tests × P x
Gives tests (Err f) P = Refused tests (stated f)
