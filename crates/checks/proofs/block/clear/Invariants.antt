use Rattle.std.proofs.Common.{◌≡◌, ℕ, ◌<◌, get_or}
use Rattle.checks.proofs.block.clear.Given as goal

-- the counters so far are 0
abbrev pub invariant-loop-counter : goal.invariant-loop-counter
invariant-loop-counter l = (c : ℕ) → c < l.counter-index → get_or l.counters c 0 ≡ 0
