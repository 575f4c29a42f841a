use Rattle.nets.proofs.SobolRows.{sobol_tables_follow_polynomials}
use Rattle.nets.proofs.statements.sobol_tables_follow_their_polynomials.Goals as goal

pub returns : goal.returns
returns c = sobol_tables_follow_polynomials
