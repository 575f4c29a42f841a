use Rattle.nets.proofs.BlockNets.{least_t_is_the_first}
use Rattle.nets.proofs.statements.least_t_is_the_first_that_passes.Goals as goal

pub returns : goal.returns
returns c = least_t_is_the_first
