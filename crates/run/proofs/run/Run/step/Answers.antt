use Rattle.std.proofs.Common.{refl}
use Rattle.run.proofs.Same.{same_run}
use Rattle.run.proofs.run.Run.step.Goals as goal

pub returns-in_default-clause-refused : goal.returns-in_default-clause-refused
returns-in_default-clause-refused g c = same_run _ _ refl refl
