use Rattle.std.proofs.Common.{◌≡◌, length, sym, ◌∙◌, rules}
use Rattle.std.proofs.lemmas.Bool.{true≢false}
use Rattle.std.proofs.lemmas.List.{take_rest}
use Rattle.tables.proofs.Givens.{parted}
use Rattle.tables.proofs.record.Record.given.Goals as goal

pub returns-then-not-are_zero : goal.returns-then-not-are_zero
returns-then-not-are_zero c layout =
    let p = c.in_ok-parts.parts in
    let rest = c.in_ok-ok.field-0.now in
    let is : rest ≡ p.numbers.now = search rules in
    let sixteen : length rest ≡ 16 = search rules in
    let eight : length c.numbers_in-numbers.result ≡ 8 = search rules in
    let told = parted c.args.self.now.bytes.now p rest c.numbers_in-numbers.result _ c.in_ok-parts.ensures is sixteen eight
    c.numbers_in-numbers.ensures (rw eight at (take_rest c.numbers_in-numbers.result p.degree))
    (c.head_is_sound.ensures.0 c.if-not-head_is_sound.false) in
    true≢false (sym (c.are_zero.ensures.1 (told.layout.1 layout)) ∙ c.if-not-are_zero.true)

pub returns : goal.returns
returns c =
    let p = c.in_ok-parts.parts in
    let rest = c.in_ok-ok.field-0.now in
    let is : rest ≡ p.numbers.now = search rules in
    let sixteen : length rest ≡ 16 = search rules in
    let eight : length c.numbers_in-numbers.result ≡ 8 = search rules in
    let told = parted c.args.self.now.bytes.now p rest c.numbers_in-numbers.result _ c.in_ok-parts.ensures is sixteen eight
    c.numbers_in-numbers.ensures (rw eight at (take_rest c.numbers_in-numbers.result p.degree))
    (c.head_is_sound.ensures.0 c.if-not-head_is_sound.false) in
    record {
      layout = told.layout.0 (c.are_zero.ensures.0 c.if-not-are_zero.false);
      degree_is = c.in_ok-parts.ensures.degree_is;
      polynomial_is = c.in_ok-parts.ensures.polynomial_is;
      numbers_are = told.numbers_are;
    }
