use Rattle.std.proofs.Common.{◌-◌, refl, subst, arith}
use Rattle.std.proofs.lemmas.Bool.Decides.{not_from_Decides}
use Rattle.base.proofs.SplitsPassed.{PassedUpTo, up_to_next}
use Rattle.base.specs.Independence.{Passes}
use Rattle.tables.specs.Table.{model}
use Rattle.verdict.proofs.FailsBelow.{fails_more, found, found_last}
use Rattle.verdict.proofs.search.search.Goals as goal

pub next-preserved : goal.next-preserved
next-preserved g c =
    let F = g.F.Field.means c.args.field.now in
    let T = model c.args.table.now in
    let counts = c.counts.result.now in
    fails_more F T c.args.m c.next.t c.loop-at.invariant.0 c.in-Some.splits
    (subst (PassedUpTo T.coordinates (c.args.m - c.next.t) (Passes F T c.args.m)) c.in-Some.is c.loop-at.invariant.1) counts
    c.counts.ensures.value c.counts.ensures.size
    (not_from_Decides {P = Passes F T c.args.m counts} c.split_passes.result c.split_passes.ensures c.if-not-split_passes.true)

pub loop-at-preserved : goal.loop-at-preserved
loop-at-preserved g c =
    let F = g.F.Field.means c.args.field.now in
    let T = model c.args.table.now in
    let passes = Passes F T c.args.m in
    let next = c.next-at.ensures in (
      c.loop-at.invariant.0,
      up_to_next T.coordinates (c.args.m - c.next.t) passes c.in-Some.splits c.next-at.result
          (subst (PassedUpTo T.coordinates (c.args.m - c.next.t) passes) c.in-Some.is c.loop-at.invariant.1)
          (subst passes c.counts.ensures.value (c.if-not-split_passes.ensures.0 refl)) next.same next.last next.none_between,
    )

pub returns-in-next : goal.returns-in-next
returns-in-next g c =
    let F = g.F.Field.means c.args.field.now in
    let T = model c.args.table.now in
    found F T c.args.m c.next.t c.loop-at.invariant.0 (omega arith)
    (subst (PassedUpTo T.coordinates (c.args.m - c.next.t) (Passes F T c.args.m)) c.in_default.is c.loop-at.invariant.1)

pub returns : goal.returns
returns g c =
    found_last (g.F.Field.means c.args.field.now) (model c.args.table.now) c.args.m c.next.t c.next.invariant c.next-test.false
