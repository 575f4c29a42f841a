use Rattle.nets.proofs.ZeroNets.{single_sobol_tables_have_t_zero_spec}
use Rattle.nets.proofs.statements.single_sobol_tables_have_t_zero.Goals as goal

pub returns : goal.returns
returns c = single_sobol_tables_have_t_zero_spec
