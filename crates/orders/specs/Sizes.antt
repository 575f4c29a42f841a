-- The tests of the numbers of an order. Assumes nothing.
use Rattle.std.specs.Prelude.{◌≡◌, ℕ, List, [], ◌∷◌}
use Rattle.base.specs.Faults.{refusal}
use Rattle.base.specs.Tables.{BaseLimits, DigitLimits}
use Rattle.base.specs.Tests.{Test, test}
use Rattle.orders.specs.declared.size.Size.{Size}

-- q and M are within their limits
abbrev pub size_tests : ℕ → ℕ → List Test
size_tests q M = test (BaseLimits q × DigitLimits q M → ⊥) (refusal 2 6 255 0) ∷ []

-- the size has these numbers
pub record HasSize (q M : ℕ) (x : Size) : Type 0 where
  pub q_is : x.q ≡ q
  pub digits_are : x.digits ≡ M
