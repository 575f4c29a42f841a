use Rattle.scramblers.specs.Shift.{shift_rule}
use Rattle.scramblers.specs.Prefixes.{ScrambledUpTo}
use Rattle.scramblers.proofs.shift.ShiftScramblerScrambler.scramble.Given as goal

-- the digits so far are scrambled
abbrev pub invariant-loop-place : goal.invariant-loop-place
invariant-loop-place l =
    ScrambledUpTo (shift_rule l.self.shape.q l.self.shape.digits l.self.key l.coordinate)
    l.place l.initial.word l.word
