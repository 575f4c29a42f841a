use Rattle.nets.proofs.Solutions.{solutions_of_rows}
use Rattle.nets.proofs.statements.solutions_of_independent_rows.Goals as goal

pub returns : goal.returns
returns c = solutions_of_rows
