use Rattle.std.proofs.Common.{◌≡◌, ◌-◌, length}
use Rattle.examples.proofs.published.print_records.Given as goal

-- the reader goes on in the same list
abbrev pub invariant-loop-record : goal.invariant-loop-record
invariant-loop-record l = l.reader.list.now ≡ l.list

-- and each record leaves less of it
abbrev pub decreases-loop-record : goal.decreases-loop-record
decreases-loop-record l = length l.list - l.reader.place
