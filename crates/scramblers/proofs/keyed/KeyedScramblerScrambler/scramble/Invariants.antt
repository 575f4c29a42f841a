use Rattle.std.proofs.Common.{◌≡◌, ◌+◌, ◌%◌, ◌^◌, take}
use Rattle.scramblers.specs.Keyed.{hash_after, keyed_rule}
use Rattle.scramblers.specs.Prefixes.{ScrambledUpTo}
use Rattle.scramblers.proofs.keyed.KeyedScramblerScrambler.scramble.Given as goal

-- the hash is that of the digits read so far, and those are scrambled
abbrev pub invariant-loop-digit : goal.invariant-loop-digit
invariant-loop-digit l =
    record {
      hash_is : l.hash ≡ hash_after ((l.self.key + l.coordinate) % 2 ^ 32) (take l.digit-index l.initial.word);
      so_far : ScrambledUpTo (keyed_rule l.self.shape.q l.self.key l.coordinate) l.digit-index l.initial.word l.word;
    }
