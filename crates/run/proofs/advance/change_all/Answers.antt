use Rattle.std.proofs.Common.{◌≡◌, ◌+◌, ◌<◌, ◌++◌, length, sym, ap, ◌∙◌, subst, take, drop, arith}
use Rattle.std.proofs.lemmas.List.{length-set, set-get_or}
use Rattle.tables.specs.Table.{model}
use Rattle.run.specs.Present.{Changed, no_digits, shown}
use Rattle.run.proofs.Changes.{changed_front, changed_more}
use Rattle.run.proofs.advance.change_all.Goals as goal
use Rattle.run.proofs.advance.change_all.Goals.{in-Some, in_default}

pub loop-j-preserved : goal.loop-j-preserved
loop-j-preserved g c =
    let F = g.F.Field.means c.args.field.now in
    let T = model c.args.table.now in
    let j = c.loop-j.j in
    let before = c.loop-j.coordinate-items in
    let few : j < length before = omega (arith, c.loop-j-test.true, c.loop-j.auto.coordinate-items) in
    elim c.match-column.branch [
      | in-Some w ↦
          let told = w.in-Some.ensures in
          record {
            size = ap length w.coordinate-items-is ∙ length-set before j w.change.new.self ∙ c.loop-j.invariant.size;
            changed = λ inside. rw w.coordinate-items-is
                (changed_more F T c.args.column c.args.by j (take c.coordinates.result c.args.coordinates.now) before w.change.new.self few
                c.args.table.now.shape.narrow
                (λ k h. w.change.ensures k h ∙ ap (λ x. F.sum (shown before j k) (F.product x c.args.by)) (told.3 k h))
                (c.loop-j.invariant.changed inside));
          }
      | in_default w ↦
          record {
            size = ap length w.coordinate-items-is ∙ ap length (set-get_or before j no_digits) ∙ c.loop-j.invariant.size;
            changed = λ inside.
                absurd {A = Changed F T c.args.column c.args.by (j + 1) (take c.coordinates.result c.args.coordinates.now) c.match-column.coordinate-items}
                (w.in_default.ensures (omega (arith, few, c.loop-j.invariant.size), inside));
          }
    ]

pub returns : goal.returns
returns g c inside =
    let F = g.F.Field.means c.args.field.now in
    let T = model c.args.table.now in
    let s = c.coordinates.result in
    let now = c.args.coordinates.now in
    let items = c.loop-j.coordinate-items in
    let end : c.loop-j.j ≡ s =
    omega (arith, c.loop-j-test.false, c.loop-j.auto.j-end, c.loop-j.auto.coordinate-items, c.loop-j.invariant.size, c.coordinates.ensures) in
    subst (λ n. Changed F T c.args.column c.args.by n now (items ++ drop s now)) c.coordinates.ensures
    (changed_front F T c.args.column c.args.by s now items (c.loop-j.invariant.size ∙ sym c.coordinates.ensures)
    (subst (λ n. Changed F T c.args.column c.args.by n (take s now) items) end (c.loop-j.invariant.changed inside)))
