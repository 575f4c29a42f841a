use Rattle.std.proofs.Common.{ap, ◌∙◌, subst, rules}
use Rattle.base.specs.Tables.{Inside}
use Rattle.tables.proofs.raw.raw_table.Goals as goal

pub returns : goal.returns
returns c =
    let x = c.in_ok-shape.ensures in
    let same = c.build.ensures.shape in (
      (x.0.0, (λ ne. ne c.if-bytes-coordinates.false, c.in_ok-check_digits.ensures.0)),
      record {
        q = ap (λ s. s.q) same ∙ x.1.q_is;
        digits = ap (λ s. s.digits) same ∙ x.1.digits_are;
        coordinates = ap (λ s. s.coordinates) same ∙ x.1.coordinates_are;
        entry = λ j k l inside.
            let within : Inside c.in_ok-shape.shape.digits c.in_ok-shape.shape.coordinates j k l = subst (λ s. Inside s.digits s.coordinates j k l) same inside in
            let told = c.build.ensures.entries j k l within in
            search rules;
      },
    )
