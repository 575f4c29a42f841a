use Rattle.scramblers.specs.MatrixProducts.{ScrambledFrom}
use Rattle.scramblers.proofs.linear.LinearScramblerScrambler.scramble.Given as goal

-- the rows from here on are done, and the digits before them are as they were read
abbrev pub invariant-loop-row : goal.invariant-loop-row
invariant-loop-row g l =
    ScrambledFrom (g.F.Field.means l.self.field) l.self.shape.digits l.self.matrices l.coordinate l.initial.word l.row l.word
