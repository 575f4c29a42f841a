-- A digit shifted by a number mod q can be shifted back, so different digits stay different.
-- Assumes nothing.
use Rattle.std.proofs.Common.{◌≡◌, ℕ, suc, ◌+◌, ◌-◌, ◌*◌, ◌/◌, ◌%◌, ◌<◌, sym, ◌∙◌, ap, mod-eq_of_lt, mod-lt, mul-suc, arith}
use Rattle.std.proofs.Math.Nat.{div-add-mod, add-mul-mod_self_left, mod-add-mod}

shifted_back : (q c d : ℕ) → d < q → ((d + c) % q + (q - c % q)) % q ≡ d
shifted_back q c d h =
    let some : 0 < q = omega arith in
    let whole : d + c + (q - c % q) ≡ d + q * suc (c / q) = omega (arith, div-add-mod c q, mod-lt c some, mul-suc q (c / q)) in
    mod-add-mod (d + c) q (q - c % q) ∙ rw (whole, add-mul-mod_self_left) (mod-eq_of_lt h)

pub same_if_shifts_same : (q c d e : ℕ) → d < q → e < q → (d + c) % q ≡ (e + c) % q → d ≡ e
same_if_shifts_same q c d e hd he same =
    sym (shifted_back q c d hd) ∙ ap (λ x. (x + (q - c % q)) % q) same ∙ shifted_back q c e he
