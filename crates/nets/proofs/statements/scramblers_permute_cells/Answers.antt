use Rattle.nets.proofs.Scramblers.{scramblers_permute_cells_spec}
use Rattle.nets.proofs.statements.scramblers_permute_cells.Goals as goal

pub returns : goal.returns
returns c = scramblers_permute_cells_spec
