-- Keyed scrambling. Assumes nothing.
use Rattle.std.specs.Prelude.{ℕ, ◌+◌, ◌*◌, ◌/◌, ◌%◌, ◌^◌, List, [], ◌∷◌, bit_or, bit_xor}
use Rattle.base.specs.Scramblers.{ScramblerModel}
use Rattle.scramblers.specs.Prefix.{by_prefix, scrambler_of}

-- h rotated left by 5, in 32 bits
abbrev pub rotated : ℕ → ℕ
rotated h = bit_or (h * 2 ^ 5 % 2 ^ 32) (h / 2 ^ 27)

-- the hash after a digit read: (h rotated left by 5, exclusive-or a) x 2654435761, mod 2^32
abbrev pub hash_next : ℕ → ℕ → ℕ
hash_next h a = bit_xor (rotated h) a * 2654435761 % 2 ^ 32

-- the hash after some digits read
abbrev pub hash_after : ℕ → List ℕ → ℕ
hash_after h [] = h
hash_after h (a ∷ rest) = hash_after (hash_next h a) rest

-- (a + floor(h / 2^16)) mod q, with the hash after the digits before, which begins at key + j
abbrev pub keyed_rule : ℕ → ℕ → ℕ → List ℕ → ℕ → ℕ
keyed_rule q key j before a = (a + hash_after ((key + j) % 2 ^ 32) before / 2 ^ 16) % q

-- each digit is moved by the hash
abbrev pub keyed_scrambler : ℕ → ℕ → ℕ → ℕ → ScramblerModel
keyed_scrambler q M s key = scrambler_of q M s (λ j. by_prefix (keyed_rule q key j) [])
