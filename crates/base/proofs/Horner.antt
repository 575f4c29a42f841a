-- Horner's rule, modulo a number: the number of a word, digit by digit from the first. Assumes nothing.
use Rattle.std.proofs.Common.{◌≡◌, ℕ, ◌+◌, ◌*◌, ◌/◌, ◌%◌, ◌^◌, ◌<◌, List, [], ◌∷◌, length, fold, sym, ap, ◌∙◌, add-zero, add-mul, mod-eq_of_lt, mod-lt, mul_assoc, mul-one, mul_comm, pow-suc, arith}
use native.Mathlib.Nat.{pow-zero}
use Rattle.std.proofs.Math.Nat.{add-mul-mod_self_right, mod-add-div'}
use Rattle.std.proofs.lemmas.Nat.{mul-mod_first}
use Rattle.base.specs.Points.{numerator}

-- a step of the rule, modulo w
abbrev pub horner_step : ℕ → ℕ → ℕ → ℕ → ℕ
horner_step w q n d = (n * q % w + d) % w

add-mod_first : (m k w : ℕ) → (m % w + k) % w ≡ (m + k) % w
add-mod_first m k w =
    let parts = mod-add-div' m w in
    sym (add-mul-mod_self_right (m % w + k) (m / w) w) ∙ ap (λ n. n % w) (omega (arith, parts))

-- (a q + x) in a larger product: with P for q to the length of what follows
step_in_product : (w q a x P N : ℕ) → (horner_step w q a x * P + N) % w ≡ (a * (P * q) + (x * P + N)) % w
step_in_product w q a x P N =
    let whole : (a * q % w + x) * P + N ≡ a * q % w * P + (x * P + N) = omega (arith, add-mul (a * q % w) x P) in
    sym (add-mod_first (horner_step w q a x * P) N w)
    ∙ ap (λ n. (n + N) % w) (mul-mod_first (a * q % w + x) P w)
    ∙ add-mod_first ((a * q % w + x) * P) N w
    ∙ ap (λ n. n % w) whole
    ∙ sym (add-mod_first (a * q % w * P) (x * P + N) w)
    ∙ ap (λ n. (n + (x * P + N)) % w) (mul-mod_first (a * q) P w)
    ∙ add-mod_first (a * q * P) (x * P + N) w
    ∙ ap (λ n. (n + (x * P + N)) % w) (mul_assoc a q P ∙ ap (λ n. a * n) (mul_comm q P))

horner_from : (w q a : ℕ) (xs : List ℕ) → 0 < w → a < w → fold (horner_step w q) a xs ≡ (a * q ^ length xs + numerator q xs) % w
horner_from w q a [] some low = sym (ap (λ n. (n + 0) % w) (ap (λ k. a * k) (pow-zero q) ∙ mul-one a) ∙ ap (λ n. n % w) (add-zero a) ∙ mod-eq_of_lt low)
horner_from w q a (x ∷ xs) some low =
    horner_from w q (horner_step w q a x) xs some (mod-lt (a * q % w + x) some)
    ∙ step_in_product w q a x (q ^ length xs) (numerator q xs)
    ∙ ap (λ k. (a * k + (x * q ^ length xs + numerator q xs)) % w) (sym (pow-suc q (length xs)))

pub horner : (w q : ℕ) (xs : List ℕ) → 0 < w → fold (horner_step w q) 0 xs ≡ numerator q xs % w
horner w q xs some = horner_from w q 0 xs some some ∙ ap (λ n. n % w) (omega arith)
