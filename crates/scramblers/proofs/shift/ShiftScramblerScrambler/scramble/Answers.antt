use Rattle.std.proofs.Common.{[], ◌∙◌, arith}
use Rattle.scramblers.specs.Prefix.{by_prefix}
use Rattle.scramblers.specs.Shift.{shift_rule}
use Rattle.scramblers.specs.Words.{left_outside, done_within}
use Rattle.scramblers.specs.Prefixes.{scrambled_all}
use Rattle.scramblers.proofs.shift.ShiftScramblerScrambler.scramble.Goals as goal

pub returns-then-not-scrambles : goal.returns-then-not-scrambles
returns-then-not-scrambles c =
    let shape = c.args.self.now.shape in
    left_outside shape.q shape.digits shape.coordinates c.args.coordinate c.args.word.now
    (λ j. by_prefix (shift_rule shape.q shape.digits c.args.self.now.key j) []) c.scrambles.result c.scrambles.ensures c.if-not-scrambles.true

pub returns : goal.returns
returns c =
    let x = c.args.self.now in
    let rule = shift_rule x.shape.q x.shape.digits x.key in
    scrambled_all (rule c.args.coordinate) c.loop-place.place c.args.word.now c.loop-place.word (omega arith)
    c.loop-place.invariant
    ∙ done_within x.shape.q x.shape.digits x.shape.coordinates c.args.coordinate c.args.word.now (λ j. by_prefix (rule j) [])
    c.scrambles.result c.scrambles.ensures c.if-not-scrambles.false
