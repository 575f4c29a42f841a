use Rattle.nets.proofs.ZeroNets.{faure_tables_have_t_zero_spec}
use Rattle.nets.proofs.statements.faure_tables_have_t_zero.Goals as goal

pub returns : goal.returns
returns c = faure_tables_have_t_zero_spec
