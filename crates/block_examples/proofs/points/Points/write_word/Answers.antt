use Rattle.std.proofs.Common.{ap, ◌∙◌, add_comm, arith}
use Rattle.base.specs.Points.{row}
use Rattle.tables.specs.Table.{model}
use Rattle.block_examples.proofs.CountedFrom.{counted_from}
use Rattle.block_examples.proofs.points.Points.write_word.Goals as goal

pub returns : goal.returns
returns g c =
    let points = c.args.self.now in
    let f = row (g.F.Field.means points.field.now) (model points.table.now) c.args.coordinate c.args.index in
    counted_from f c.loop-row.word 1 points.table.now.shape.digits 0 (omega (arith, c.requires.size))
    (λ k h. c.loop-row.invariant k (omega (arith, h)) ∙ ap f (add_comm k 1))
