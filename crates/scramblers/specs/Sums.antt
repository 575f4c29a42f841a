-- A number added modulo q permutes the digits below q, so adding to each digit a number that the digits before it give
-- keeps the laws of a scrambler.
-- Assumes nothing.
use Rattle.std.specs.Prelude.{ℕ, ◌+◌, ◌%◌, List, [], refl}
use Rattle.std.proofs.Common.{mod-lt, arith}
use Rattle.base.proofs.Shifts.{same_if_shifts_same}
use Rattle.base.specs.Scramblers.{ScramblerLaws}
use Rattle.base.specs.Tables.{Limits}
use Rattle.scramblers.specs.Prefix.{by_prefix, scrambler_of}
use Rattle.scramblers.specs.Prefixes.{prefix_rule_keeps_laws}

-- `by j before` is added to the digit after `before` of coordinate j
pub adding_keeps_laws : (q M s : ℕ) (by : ℕ → List ℕ → ℕ) → Limits q M s
    → ScramblerLaws (scrambler_of q M s (λ j. by_prefix (λ before a. (a + by j before) % q) []))
adding_keeps_laws q M s by limits =
    prefix_rule_keeps_laws q M s (λ j before a. (a + by j before) % q) (λ j. by_prefix (λ before a. (a + by j before) % q) []) limits
    (λ j u _ _. refl) (λ j before a _ _ _ h. mod-lt (a + by j before) (omega arith))
    (λ j before a b _ _ _. same_if_shifts_same q (by j before) a b)
