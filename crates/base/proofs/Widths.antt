-- Within the limits a word has at most 32 digits. Assumes nothing.
use Rattle.std.proofs.Common.{ℕ, ◌^◌, ◌≤◌, ⊎_elim, arith}
use native.Mathlib.Nat.{pow-le-pow_left}
use lib.Pow.{pow-lt}
use Rattle.std.proofs.lemmas.Bool.{cases_lt}

pub at_most_32_digits : (q M : ℕ) → 2 ≤ q → q ^ M ≤ 2 ^ 32 → M ≤ 32
at_most_32_digits q M hq h =
    ⊎_elim (λ more. absurd (omega (arith, pow-lt more, pow-le-pow_left hq M))) (λ few. few) (cases_lt 32 M)
