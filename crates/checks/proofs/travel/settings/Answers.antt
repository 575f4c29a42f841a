use Rattle.std.proofs.Common.{◌^◌, [], ◌∷◌, refl, subst, subst₂, inl, inr, rules}
use Rattle.std.proofs.lemmas.Result.{err_from_is_err_and}
use Rattle.std.proofs.lemmas.Bool.Decides.{not_from_Decides}
use Rattle.base.proofs.Testing.{clean_append, digits_clean, refused_left, refused_right}
use Rattle.base.specs.Digits.{AllDigits, digit_tests}
use Rattle.base.specs.Faults.{refusal, stated}
use Rattle.base.specs.Tests.{Refused, test}
use Rattle.checks.specs.Settings.{AllTravel, Scaled}
use Rattle.checks.proofs.Scaling.{positions_of}
use Rattle.checks.proofs.travel.settings.Goals as goal

pub returns-in_err-check_numerators-clause-answer : goal.returns-in_err-check_numerators-clause-answer
returns-in_err-check_numerators-clause-answer c =
    let xs = c.args.numerators.now in
    let Q = c.args.q ^ c.args.digits in
    let is = positions_of c.in_ok-shape.shape c.in_ok-shape.ensures.1 in
    let p = err_from_is_err_and c.from_residual-in_err-check_numerators.result c.from_residual-in_err-check_numerators.ensures.1 in
    rw (p.1, p.2)
    (inr (
      c.in_ok-shape.ensures.0.0,
      inr (
        λ h. h (search rules),
        refused_left (digit_tests Q 5 xs) (test (AllTravel c.args.travel.now → ⊥) (refusal 8 5 255 0) ∷ [])
            (stated c.in_err-check_numerators.field-0.0)
            (subst (λ n. Refused (digit_tests n 5 xs) (stated c.in_err-check_numerators.field-0.0)) is c.in_err-check_numerators.ensures),
      ),
    ))

pub returns-then-not-all_travel_fits-clause-answer : goal.returns-then-not-all_travel_fits-clause-answer
returns-then-not-all_travel_fits-clause-answer c =
    let xs = c.args.numerators.now in
    let Q = c.args.q ^ c.args.digits in
    let is = positions_of c.in_ok-shape.shape c.in_ok-shape.ensures.1 in
    inr (
      c.in_ok-shape.ensures.0.0,
      inr (
        λ h. h (search rules),
        refused_right (digit_tests Q 5 xs) (test (AllTravel c.args.travel.now → ⊥) (refusal 8 5 255 0) ∷ [])
            (stated c.of-then-not-all_travel_fits.result)
            (digits_clean Q 5 xs (subst (λ n. AllDigits n xs) is c.in_ok-check_numerators.ensures.1))
            (inl (
              not_from_Decides c.all_travel_fits.result c.all_travel_fits.ensures c.if-not-all_travel_fits.true,
              c.of-then-not-all_travel_fits.ensures,
            )),
      ),
    )

pub returns-clause-answer : goal.returns-clause-answer
returns-clause-answer c =
    let xs = c.args.numerators.now in
    let Q = c.args.q ^ c.args.digits in
    let is = positions_of c.in_ok-shape.shape c.in_ok-shape.ensures.1 in (
      (
        c.in_ok-shape.ensures.0.0,
        (
          λ h. h (search rules),
          clean_append (digit_tests Q 5 xs) (test (AllTravel c.args.travel.now → ⊥) (refusal 8 5 255 0) ∷ [])
              (digits_clean Q 5 xs (subst (λ n. AllDigits n xs) is c.in_ok-check_numerators.ensures.1))
              (λ h. h (c.if-not-all_travel_fits.ensures.0 refl), tt),
        ),
      ),
      subst₂ (λ n k. Scaled n k xs c.args.travel.now c.write_settings.new.out) is (search rules) c.write_settings.ensures,
    )
