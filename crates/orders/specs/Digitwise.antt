-- Indexes made digit by digit. Assumes nothing.
use Rattle.std.specs.Prelude.{◌≡◌, ℕ, suc, ◌<◌, ◌/◌, ◌^◌, if◌then◌else◌, nat_lt}
use Rattle.base.specs.Orders.{digit, from_digits}

-- below q^M, the number whose digit at q^l is step l (n / q^(l+1)) d_l, where d_l is the digit of n at q^l;
-- any other number as it is
abbrev pub by_digits : ℕ → ℕ → (ℕ → ℕ → ℕ → ℕ) → ℕ → ℕ
by_digits q M step n = if nat_lt n (q ^ M) then from_digits q M (λ l. step l (n / q ^ suc l) (digit q n l)) else n

-- a call by which a rule gives x, for the place l, the quotient h above it and the digit d, has x as in step
abbrev pub GivesSteps : ℕ → (ℕ → ℕ → ℕ → ℕ → Type 0) → (ℕ → ℕ → ℕ → ℕ) → Type 0
GivesSteps q gives step = (l h d x : ℕ) → l < 32 → d < q → gives l h d x → x ≡ step l h d
