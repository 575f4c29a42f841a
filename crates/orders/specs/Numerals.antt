-- Numbers and their digits in base q.
-- A number made from digits below q lies below q^n and has those digits; a number is its quotient and a digit.
-- Assumes nothing.
use Rattle.std.specs.Prelude.{◌≡◌, ℕ, zero, suc, ◌+◌, ◌*◌, ◌/◌, ◌^◌, ◌<◌}
use Rattle.std.proofs.Common.{sym, ◌∙◌, ap, ap₂, zero-add, mul-zero, mul-one, mul-add, mul_left_comm, pow-suc, div-one, div-add-mod', mod-eq_of_lt, arith}
use Rattle.std.proofs.Math.Nat.{pow-zero, pow-succ', div-div-eq-div-mul, div-eq_of_lt, add-mul-div_left, add-mul-mod_self_left}
use Rattle.std.proofs.lemmas.Nat.{mul-add-lt}
use Rattle.base.specs.Orders.{digit, from_digits}

-- ---- numbers from digits

-- one digit more, at the top
pub from_digits_more : (q n : ℕ) (f : ℕ → ℕ) → from_digits q (suc n) f ≡ from_digits q n f + f n * q ^ n
from_digits_more q zero f = rw (pow-zero, mul-one, mul-zero) (omega arith)
from_digits_more q (suc n) f =
    rw (from_digits_more q n (λ l. f (suc l)), mul-add, pow-succ', mul_left_comm (f (suc n)) q (q ^ n)) (omega arith)

pub from_digits_below : (q n : ℕ) (f : ℕ → ℕ) → ((l : ℕ) → l < n → f l < q) → from_digits q n f < q ^ n
from_digits_below q zero f small = rw pow-zero (omega arith)
from_digits_below q (suc n) f small =
    let rest = from_digits q n (λ l. f (suc l)) in
    let below = from_digits_below q n (λ l. f (suc l)) (λ l h. small (suc l) (omega arith)) in
    omega (arith, mul-add-lt rest q (f 0) (q ^ n) below (small 0 (omega arith)), pow-succ' q n)

pub digit_from_digits : (q n : ℕ) (f : ℕ → ℕ) → ((l : ℕ) → l < n → f l < q) → (l : ℕ) → l < n
    → digit q (from_digits q n f) l ≡ f l
digit_from_digits q zero f small l h = absurd (omega arith)
digit_from_digits q (suc n) f small zero h =
    let low = small 0 h in rw (pow-zero, div-one, add-mul-mod_self_left) (mod-eq_of_lt low)
digit_from_digits q (suc n) f small (suc l) h =
    let low = small 0 (omega arith) in
    let some : 0 < q = omega arith in
    let rest = from_digits q n (λ k. f (suc k)) in
    let lower : (f 0 + q * rest) / q ≡ rest = add-mul-div_left (f 0) rest some ∙ rw (div-eq_of_lt low) (zero-add rest) in
    rw (pow-succ', ← div-div-eq-div-mul (f 0 + q * rest) q (q ^ l), lower)
    (digit_from_digits q n (λ k. f (suc k)) (λ k b. small (suc k) (omega arith)) l (omega arith))

-- ---- quotients and digits

pub quotient_above : (q n l : ℕ) → n / q ^ suc l ≡ n / q ^ l / q
quotient_above q n l = rw pow-suc (sym (div-div-eq-div-mul n (q ^ l) q))

pub same_quotients_above : (q a b l : ℕ) → a / q ^ l ≡ b / q ^ l → a / q ^ suc l ≡ b / q ^ suc l
same_quotients_above q a b l same = quotient_above q a l ∙ ap (λ x. x / q) same ∙ sym (quotient_above q b l)

quotient_and_digit : (q n l : ℕ) → n / q ^ l ≡ n / q ^ suc l * q + digit q n l
quotient_and_digit q n l = rw quotient_above (sym (div-add-mod' (n / q ^ l) q))

pub same_if_parts_same : (q a b l : ℕ) → a / q ^ suc l ≡ b / q ^ suc l → digit q a l ≡ digit q b l → a / q ^ l ≡ b / q ^ l
same_if_parts_same q a b l above here =
    quotient_and_digit q a l ∙ ap₂ (λ x y. x * q + y) above here ∙ sym (quotient_and_digit q b l)
