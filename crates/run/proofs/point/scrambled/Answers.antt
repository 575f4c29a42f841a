use Rattle.std.proofs.Common.{◌%◌, ◌^◌, ap, ◌∙◌}
use Rattle.base.specs.Points.{numerator}
use Rattle.nets.proofs.Numbers.{number_in_32_bits}
use Rattle.run.proofs.point.scrambled.Goals as goal

pub returns : goal.returns
returns g c readable =
    let word = (g.S.Scrambler.means c.args.scrambler.now).scramble c.args.j c.args.word.now in
    c.number_of.ensures ∙ ap (λ w. numerator c.args.q w % 2 ^ 32) c.scramble.ensures ∙ number_in_32_bits c.args.q word readable.0 readable.1
