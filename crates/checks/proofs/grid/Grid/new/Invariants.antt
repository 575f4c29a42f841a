use Rattle.std.proofs.Common.{ℕ, ◌≡◌, ◌+◌, ◌^◌, ◌<◌, length, get_or}
use Rattle.checks.proofs.grid.Grid.new.Given as goal

-- the places so far hold the powers, and `power` is the last of them
abbrev pub invariant-loop-place : goal.invariant-loop-place
invariant-loop-place l =
    record {
      size : length l.place-items ≡ l.shape.digits;
      done : (i : ℕ) → i < l.place-index → get_or l.place-items i 0 ≡ l.shape.q ^ (i + 1);
      last : l.power ≡ l.shape.q ^ l.place-index;
    }
