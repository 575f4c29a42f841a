use Rattle.std.proofs.Common.{rules}
use Rattle.std.proofs.lemmas.List.{places}
use Rattle.verdict.proofs.matrix.Matrix.clear_below.Goals as goal

pub returns-clause-rows : goal.returns-clause-rows
returns-clause-rows g c =
    record { later = λ k l above below column. search (rules, places); others = λ k outside. search (rules, places) }
