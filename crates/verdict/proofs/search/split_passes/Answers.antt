use Rattle.std.proofs.Common.{sym, subst}
use Rattle.tables.specs.Table.{model}
use Rattle.verdict.proofs.SplitAnswers.{split_decides, split_digits, table_over}
use Rattle.verdict.specs.Matrices.{DigitRows, digits_of}
use Rattle.base.specs.Independence.{Independent}
use Rattle.std.proofs.Common.{Decides}
use Rattle.verdict.proofs.search.split_passes.Goals as goal

pub is_independent-requires : goal.is_independent-requires
is_independent-requires g c =
    let f = c.args.field.now in
    let F = g.F.Field.means f in
    let table = c.args.table.now in
    let x = c.of_split.result in
    let made = c.of_split.ensures in
    subst (λ m. DigitRows F.q 0 x.count m x.rows) (sym made.columns)
    (split_digits F (model table) c.args.counts.now c.args.m x.count x.rows made.count made.rows
    (table_over F (g.met.F.Field.keeps f) table c.requires.same) c.requires.each c.requires.few c.requires.within)

pub returns : goal.returns
returns g c =
    let F = g.F.Field.means c.args.field.now in
    let x = c.of_split.result in
    let made = c.of_split.ensures in
    split_decides F (model c.args.table.now) c.args.counts.now c.args.m x.count x.rows made.count made.rows c.is_independent.result
    (subst (λ m. Decides c.is_independent.result (Independent F x.count m (digits_of x.rows))) made.columns c.is_independent.ensures)
