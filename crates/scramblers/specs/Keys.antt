-- What a shift keeps of its key. Assumes nothing.
use Rattle.std.specs.Prelude.{ℕ, List}
use Rattle.base.specs.Digits.{BeginsWith}
use Rattle.base.specs.Shapes.{HasShape}
use Rattle.scramblers.specs.declared.shift.ShiftScrambler.{ShiftScrambler}

-- the shift has the numbers and the key digits that it was made with
pub record KeptKey (q M s : ℕ) (key : List ℕ) (x : ShiftScrambler) : Type 0 where
  pub numbers : HasShape q M s x.shape
  pub key_is : BeginsWith key x.key
