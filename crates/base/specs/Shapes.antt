-- The numbers of tables, scramblers and sets of points. Assumes nothing.
use Rattle.std.specs.Prelude.{◌≡◌, ℕ, List, [], ◌∷◌}
use Rattle.base.specs.Faults.{refusal}
use Rattle.base.specs.Tables.{Limits}
use Rattle.base.specs.Tests.{Test, test}
use Rattle.base.specs.declared.limits.Shape.{Shape}

-- q, M and s are within their limits; a layer refuses them otherwise
abbrev pub limit_tests : ℕ → ℕ → ℕ → ℕ → List Test
limit_tests layer q M s = test (Limits q M s → ⊥) (refusal 2 layer 255 0) ∷ []

-- the shape has these numbers
pub record HasShape (q M s : ℕ) (x : Shape) : Type 0 where
  pub q_is : x.q ≡ q
  pub digits_are : x.digits ≡ M
  pub coordinates_are : x.coordinates ≡ s
