use Rattle.std.proofs.Common.{◌≡◌, ◌^◌, fold, ◌∙◌, arith, rules}
use Rattle.base.proofs.Horner.{horner, horner_step}
use Rattle.base.proofs.digits.number_of.Goals as goal

pub returns : goal.returns
returns c =
    let told : c.fold.result ≡ fold (horner_step (2 ^ 32) c.args.q) 0 c.args.word.now = search rules in
    told ∙ horner (2 ^ 32) c.args.q c.args.word.now (omega arith)
