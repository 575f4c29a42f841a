use Rattle.std.proofs.Common.{◌-◌}
use Rattle.base.proofs.SplitsPassed.{PassedUpTo, left_at}
use Rattle.base.specs.Independence.{Passes}
use Rattle.tables.specs.Table.{model}
use Rattle.verdict.proofs.FailsBelow.{FailsBelow}
use Rattle.verdict.proofs.search.search.Given as goal

-- for each number so far some split fails
abbrev pub invariant-next : goal.invariant-next
invariant-next g l = FailsBelow (g.F.Field.means l.field) (model l.table) l.m l.t

-- and every split before the one at hand passes
abbrev pub invariant-loop-at : goal.invariant-loop-at
invariant-loop-at g l =
    FailsBelow (g.F.Field.means l.field) (model l.table) l.m l.t
    × PassedUpTo (model l.table).coordinates (l.m - l.t) (Passes (g.F.Field.means l.field) (model l.table) l.m) l.at

abbrev pub decreases-loop-at : goal.decreases-loop-at
decreases-loop-at g l = left_at (l.m - l.t) l.at
