use Rattle.std.proofs.Common.{◌∙◌, arith, rules}
use Rattle.std.proofs.lemmas.List.{length-set}
use Rattle.tables.proofs.Powers.{columns_more, next_column}
use Rattle.tables.proofs.faure.powers.Goals as goal

pub loop-column-preserved : goal.loop-column-preserved
loop-column-preserved g c =
    let F = g.F.Field.means c.args.field.now in
    let l = c.loop-column in
    let so_far = l.invariant in
    record {
      size = length-set l.column-items l.column-index l.power ∙ so_far.size;
      done = columns_more F c.args.a l.column-index l.column-items l.power (omega (arith, so_far.size)) so_far.next so_far.done;
      next = next_column F (g.met.F.Field.keeps c.args.field.now) c.args.a c.requires l.column-index l.power c.times_a_plus_x-next.result
          (search rules) c.times_a_plus_x-next.ensures so_far.next;
    }
