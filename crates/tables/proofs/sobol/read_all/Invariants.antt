use Rattle.std.proofs.Common.{◌≡◌, ◌-◌, ◌/◌, length}
use Rattle.tables.proofs.Reading.{ReadUpTo}
use Rattle.tables.proofs.sobol.read_all.Given as goal

-- the records so far are read, and the reader stands at the next
abbrev pub invariant-loop-record : goal.invariant-loop-record
invariant-loop-record l =
    (l.reader.list.now ≡ l.initial.reader.list.now)
    × ReadUpTo l.initial.reader.list.now (l.reader.place / 20) l.reader.place l.numbers

abbrev pub decreases-loop-record : goal.decreases-loop-record
decreases-loop-record l = length l.initial.reader.list.now - l.reader.place
