use Rattle.std.proofs.Common.{refl}
use Rattle.tables.proofs.Powers.{one_then_zeros}
use Rattle.tables.proofs.faure.one.Goals as goal

pub returns : goal.returns
returns c = record { size = refl; coefficients = one_then_zeros 31 }
