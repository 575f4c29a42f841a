use Rattle.std.proofs.Common.{◌≡◌, ℕ, ◌+◌, ◌%◌, ◌^◌, ◌<◌, List, [], ◌∷◌, ◌++◌, length, get_or, take, sym, refl, ap, ◌∙◌, ap₂, arith}
use Rattle.std.proofs.lemmas.List.{take_more}
use Rattle.scramblers.specs.Keyed.{hash_after, hash_next, keyed_rule}
use Rattle.scramblers.specs.Prefix.{by_prefix}
use Rattle.scramblers.specs.Prefixes.{scrambled_all, scrambled_more}
use Rattle.scramblers.specs.Words.{left_outside, done_within}
use Rattle.scramblers.proofs.keyed.KeyedScramblerScrambler.scramble.Goals as goal

hash_after_push : (h : ℕ) (read : List ℕ) (a : ℕ) → hash_after h (read ++ a ∷ []) ≡ hash_next (hash_after h read) a
hash_after_push h [] a = refl
hash_after_push h (b ∷ read) a = hash_after_push (hash_next h b) read a

-- a digit read moves the hash on
hash_more : (h n : ℕ) (u : List ℕ) → n < length u → hash_next (hash_after h (take n u)) (get_or u n 0) ≡ hash_after h (take (n + 1) u)
hash_more h n u l = sym (ap (hash_after h) (take_more u n 0 l) ∙ hash_after_push h (take n u) (get_or u n 0))

pub returns-then-not-scrambles : goal.returns-then-not-scrambles
returns-then-not-scrambles c =
    let shape = c.args.self.now.shape in
    left_outside shape.q shape.digits shape.coordinates c.args.coordinate c.args.word.now
    (λ j. by_prefix (keyed_rule shape.q c.args.self.now.key j) []) c.scrambles.result c.scrambles.ensures c.if-not-scrambles.true

pub loop-digit-preserved : goal.loop-digit-preserved
loop-digit-preserved c =
    let u = c.args.word.now in
    let n = c.loop-digit.digit-index in
    let word = c.loop-digit.word in
    let start : ℕ = (c.args.self.now.key + c.args.coordinate) % 2 ^ 32 in
    let before = c.loop-digit.invariant in
    let hash = before.hash_is in
    record {
      hash_is = c.hash_next-hash.ensures ∙ ap₂ hash_next hash (before.so_far.left n (omega arith))
          ∙ hash_more start n u (omega arith);
      so_far = scrambled_more (keyed_rule c.args.self.now.shape.q c.args.self.now.key c.args.coordinate) n u word _
          (omega arith) (cc) before.so_far;
    }

pub returns : goal.returns
returns c =
    let x = c.args.self.now in
    scrambled_all (keyed_rule x.shape.q x.key c.args.coordinate) c.loop-digit.digit-index c.args.word.now
    c.loop-digit.word (omega arith) c.loop-digit.invariant.so_far
    ∙ done_within x.shape.q x.shape.digits x.shape.coordinates c.args.coordinate c.args.word.now
    (λ j. by_prefix (keyed_rule x.shape.q x.key j) []) c.scrambles.result c.scrambles.ensures c.if-not-scrambles.false
