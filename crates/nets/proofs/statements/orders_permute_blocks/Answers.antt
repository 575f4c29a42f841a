use Rattle.nets.proofs.Orders.{orders_permute_blocks_spec}
use Rattle.nets.proofs.statements.orders_permute_blocks.Goals as goal

pub returns : goal.returns
returns c = orders_permute_blocks_spec
