use Rattle.nets.proofs.BlockNets.{block_is_net_exactly}
use Rattle.nets.proofs.statements.block_is_net_exactly_when_splits_pass.Goals as goal

pub returns : goal.returns
returns c = block_is_net_exactly
