use Rattle.examples.proofs.Worked.{worked_examples_hold}
use Rattle.examples.proofs.stated.worked_examples.Goals as goal

pub returns-clause-stated : goal.returns-clause-stated
returns-clause-stated c = worked_examples_hold
