-- The shifted order. Assumes nothing.
use Rattle.std.specs.Prelude.{ℕ, ◌+◌, ◌%◌, List, ◌∷◌, length, ◌≢◌, slice_index}
use Rattle.base.specs.Digits.{digit_tests}
use Rattle.base.specs.Faults.{refusal}
use Rattle.base.specs.Orders.{OrderModel}
use Rattle.base.specs.Tables.{BaseLimits, DigitLimits}
use Rattle.base.specs.Tests.{Test, test}
use Rattle.orders.specs.Digitwise.{by_digits}

-- (d_l + key_l) mod q, arithmetic on numbers
abbrev pub shift_step : ℕ → List ℕ → ℕ → ℕ → ℕ → ℕ
shift_step q key l above d = (d + slice_index key l) % q

-- the order of these digits
abbrev pub shifted_order : ℕ → ℕ → List ℕ → OrderModel
shifted_order q M key = record { q = q; digits = M; index = by_digits q M (shift_step q key) }

-- the tests of a shifted order: q and M, the key's length, then each of its bytes
abbrev pub key_tests : ℕ → ℕ → List ℕ → List Test
key_tests q M key =
    test (BaseLimits q × DigitLimits q M → ⊥) (refusal 2 6 255 0) ∷ test (length key ≢ M) (refusal 3 6 255 0)
    ∷ digit_tests q 6 key
