use Rattle.std.proofs.Common.{◌≡◌, ◌/◌, ◌^◌}
use Rattle.base.specs.Fields.{sum_over}
use Rattle.base.specs.Orders.{digit}
use Rattle.tables.specs.Table.{model}
use Rattle.block_examples.proofs.points.Points.row.Given as goal

-- the sum over the columns so far, and the rest of the index
abbrev pub invariant-loop-column : goal.invariant-loop-column
invariant-loop-column g l =
    let F = g.F.Field.means l.self.field.now in
    let T = model l.self.table.now in
    record {
      added : l.sum ≡ sum_over F l.column (λ k. F.product (T.entry l.coordinate l.row k) (digit T.q l.index k));
      left : l.rest ≡ l.index / T.q ^ l.column;
    }
