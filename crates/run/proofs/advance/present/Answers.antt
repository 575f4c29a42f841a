use Rattle.std.proofs.Common.{arith}
use native.Mathlib.Nat.{one-le-pow}
use Rattle.tables.specs.Table.{model}
use Rattle.verdict.proofs.SplitAnswers.{table_over}
use Rattle.run.proofs.Points.{zeros_present}
use Rattle.run.proofs.advance.present.Goals as goal

pub returns : goal.returns
returns g c = λ same low.
    let F = g.F.Field.means c.args.field.now in
    let laws = g.met.F.Field.keeps c.args.field.now in
    let t = c.args.table.now in
    (c.advance.ensures same (one-le-pow t.shape.digits t.shape.q (omega (arith, t.shape.base.0))) low
    (zeros_present F (model t) (table_over F laws t same) t.shape.dimension.1 t.shape.narrow)).0
