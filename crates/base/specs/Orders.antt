-- Point orders: what one means, and the laws that it keeps. Assumes nothing.
use Rattle.std.specs.Prelude.{◌≡◌, ℕ, zero, suc, ◌+◌, ◌*◌, ◌/◌, ◌%◌, ◌^◌, ◌<◌, ◌≤◌}
use Rattle.base.specs.Tables.{BaseLimits, DigitLimits}

-- the digit of n at q^l
abbrev pub digit : ℕ → ℕ → ℕ → ℕ
digit q n l = n / q ^ l % q

-- the number with the digit f l at q^l, for l below n
abbrev pub from_digits : ℕ → ℕ → (ℕ → ℕ) → ℕ
from_digits q zero f = 0
from_digits q (suc n) f = f 0 + q * from_digits q n (λ l. f (suc l))

-- an order of words of M digits: from positions to indexes
pub record OrderModel : Type 0 where
  pub q : ℕ
  pub digits : ℕ
  pub index : ℕ → ℕ

-- the laws of an order. Positions below q^M go to indexes below q^M; two positions agree in all but their lowest m digits
-- exactly when their indexes do, for every m from 0 to M; any other position comes back as it came.
-- At m = 0 this says that different positions have different indexes, so an order that sends all to one index is none.
pub record OrderLaws (O : OrderModel) : Type 0 where
  pub base : BaseLimits O.q
  pub width : DigitLimits O.q O.digits
  pub below : (n : ℕ) → n < O.q ^ O.digits → O.index n < O.q ^ O.digits
  pub prefix : (m a b : ℕ) → m ≤ O.digits → a < O.q ^ O.digits → b < O.q ^ O.digits
      → a / O.q ^ m ≡ b / O.q ^ m → O.index a / O.q ^ m ≡ O.index b / O.q ^ m
  pub prefix_back : (m a b : ℕ) → m ≤ O.digits → a < O.q ^ O.digits → b < O.q ^ O.digits
      → O.index a / O.q ^ m ≡ O.index b / O.q ^ m → a / O.q ^ m ≡ b / O.q ^ m
  pub outside : (n : ℕ) → O.q ^ O.digits ≤ n → O.index n ≡ n
