-- Words and numbers: the words of k digits, read as numbers in base q, are exactly the numbers below q^k. Assumes nothing.
use Rattle.std.proofs.Common.{◌≡◌, ℕ, zero, suc, ◌+◌, ◌-◌, ◌*◌, ◌/◌, ◌%◌, ◌^◌, ◌<◌, ◌≤◌, List, [], ◌∷◌, length, take, sym, refl, ap, ◌∙◌, subst, ap₂, mod-eq_of_lt, mod-lt, mul_assoc, mul_comm, add_comm, pow-suc, div-add-mod', div-one, arith, pow-add}
use native.Mathlib.Nat.{add-mul-mod_self_right, div-div-eq-div-mul, div-eq_of_lt, mul-add-div_right, one-le-pow, pow-zero}
use Rattle.std.proofs.lemmas.Nat.{div_below, div-mul-add, mod-mul-add, mul-add-lt}
use Rattle.std.proofs.lemmas.List.{length-take-le}
use Rattle.base.specs.Digits.{AllDigits}
use Rattle.base.specs.Orders.{digit}
use Rattle.base.specs.Points.{numerator}
use Rattle.base.specs.Scramblers.{Word}

-- the word of k digits that is read as n
abbrev pub word_of : ℕ → ℕ → ℕ → List ℕ
word_of q zero n = []
word_of q (suc k) n = n / q ^ k ∷ word_of q k (n % q ^ k)

pub word_head : (q k x : ℕ) (xs : List ℕ) → Word q (suc k) (x ∷ xs) → x < q
word_head q k x xs w = w.1 0 (omega arith)

pub word_tail : (q k x : ℕ) (xs : List ℕ) → Word q (suc k) (x ∷ xs) → Word q k xs
word_tail q k x xs w = (omega (arith, w.0), λ i h. w.1 (suc i) (omega (arith, h)))

pub word_cons : (q k x : ℕ) (xs : List ℕ) → x < q → Word q k xs → Word q (suc k) (x ∷ xs)
word_cons q k x xs h w = (ap suc w.0, each)
  where
    each : AllDigits q (x ∷ xs)
    each zero l = h
    each (suc i) l = w.1 i (omega (arith, l))

pow_more : (q k : ℕ) → q ^ suc k ≡ q * q ^ k
pow_more q k = pow-suc q k ∙ mul_comm (q ^ k) q

pub word_number_below : (q k : ℕ) (w : List ℕ) → Word q k w → numerator q w < q ^ k
word_number_below q zero [] w = omega (arith, pow-zero q)
word_number_below q zero (x ∷ xs) w = omega (arith, w.0)
word_number_below q (suc k) [] w = omega (arith, w.0)
word_number_below q (suc k) (x ∷ xs) w =
    let tail = word_tail q k x xs w in
    rw (pow-suc q k)
    (subst (λ l. x * q ^ l + numerator q xs < q ^ k * q) (sym tail.0)
    (mul-add-lt x (q ^ k) (numerator q xs) q (word_head q k x xs w) (word_number_below q k xs tail)))

-- the number of a word of digits that 32 bits hold
pub number_in_32_bits : (q : ℕ) (w : List ℕ) → AllDigits q w → q ^ length w ≤ 2 ^ 32 → numerator q w % 2 ^ 32 ≡ numerator q w
number_in_32_bits q w digits fits = mod-eq_of_lt (omega (arith, word_number_below q (length w) w (refl, digits), fits))

pub word_of_number : (q k n : ℕ) → 1 ≤ q → n < q ^ k → Word q k (word_of q k n)
word_of_number q zero n some h = (refl, λ i l. elim l [ ])
word_of_number q (suc k) n some h =
    let pos : 0 < q ^ k = one-le-pow k q some in
    word_cons q k (n / q ^ k) (word_of q k (n % q ^ k)) (div_below n (q ^ k) q pos (rw (← pow_more q k) h))
    (word_of_number q k (n % q ^ k) some (mod-lt n pos))

pub number_of_word_of : (q k n : ℕ) → 1 ≤ q → n < q ^ k → numerator q (word_of q k n) ≡ n
number_of_word_of q zero n some h = omega (arith, pow-zero q, h)
number_of_word_of q (suc k) n some h =
    let pos : 0 < q ^ k = one-le-pow k q some in
    let below = mod-lt n pos in
    ap₂ (λ l x. n / q ^ k * q ^ l + x) (word_of_number q k (n % q ^ k) some below).0 (number_of_word_of q k (n % q ^ k) some below)
    ∙ div-add-mod' n (q ^ k)

pub word_of_number_of : (q k : ℕ) (w : List ℕ) → Word q k w → word_of q k (numerator q w) ≡ w
word_of_number_of q zero [] w = refl
word_of_number_of q zero (x ∷ xs) w = let no : 1 ≤ 0 = omega (arith, w.0) in elim no [ ]
word_of_number_of q (suc k) [] w = let no : 1 ≤ 0 = omega (arith, w.0) in elim no [ ]
word_of_number_of q (suc k) (x ∷ xs) w =
    let tail = word_tail q k x xs w in
    let below = word_number_below q k xs tail in
    let is : numerator q (x ∷ xs) ≡ x * q ^ k + numerator q xs = ap (λ l. x * q ^ l + numerator q xs) tail.0 in
    ap₂ ◌∷◌ (ap (λ n. n / q ^ k) is ∙ div-mul-add x (q ^ k) (numerator q xs) below)
    (ap (λ n. word_of q k (n % q ^ k)) is ∙ ap (word_of q k) (mod-mul-add x (q ^ k) (numerator q xs) below) ∙ word_of_number_of q k xs tail)

-- the digits of n q + x: x, and those of n
pub lowest_digit : (q n x : ℕ) → x < q → digit q (n * q + x) 0 ≡ x
lowest_digit q n x h =
    ap (λ w. (n * q + x) / w % q) (pow-zero q) ∙ ap (λ y. y % q) (div-one (n * q + x)) ∙ mod-mul-add n q x h

pub higher_digit : (q n x l : ℕ) → x < q → digit q (n * q + x) (suc l) ≡ digit q n l
higher_digit q n x l h =
    ap (λ w. (n * q + x) / w % q) (pow_more q l)
    ∙ ap (λ y. y % q) (sym (div-div-eq-div-mul (n * q + x) q (q ^ l)) ∙ ap (λ y. y / q ^ l) (div-mul-add n q x h))

-- the digits of c q^m + r, with r below q^m: at and above q^m those of c, below it those of r
pub digit_above_lem : (q m c r l : ℕ) → r < q ^ m → digit q (c * q ^ m + r) (m + l) ≡ digit q c l
digit_above_lem q m c r l h =
    ap (λ w. (c * q ^ m + r) / w % q) (pow-add q m l)
    ∙ ap (λ x. x % q) (sym (div-div-eq-div-mul (c * q ^ m + r) (q ^ m) (q ^ l)) ∙ ap (λ x. x / q ^ l) (div-mul-add c (q ^ m) r h))

pub digit_under : (q m c r l : ℕ) → 1 ≤ q → l < m → digit q (c * q ^ m + r) l ≡ digit q r l
digit_under q m c r l some h =
    let k = m - suc l in
    let pos : 0 < q ^ l = one-le-pow l q some in
    let split : q ^ m ≡ q ^ suc k * q ^ l = ap (λ e. q ^ e) (omega (arith, h)) ∙ pow-add q (suc k) l in
    let whole : c * q ^ m + r ≡ c * q ^ suc k * q ^ l + r = ap (λ x. c * x + r) split ∙ ap (λ x. x + r) (sym (mul_assoc c (q ^ suc k) (q ^ l))) in
    let tens : c * q ^ suc k ≡ c * q ^ k * q = ap (λ x. c * x) (pow-suc q k) ∙ sym (mul_assoc c (q ^ k) q) in
    ap (λ x. x / q ^ l % q) whole ∙ ap (λ x. x % q) (mul-add-div_right pos (c * q ^ suc k) r) ∙ ap (λ x. (x + r / q ^ l) % q) tens
    ∙ ap (λ x. x % q) (add_comm (c * q ^ k * q) (r / q ^ l)) ∙ add-mul-mod_self_right (r / q ^ l) (c * q ^ k) q

-- ---- leading digits

-- floor(X / q^(M-d)) is the number of the first d digits of the word that is read as X
pub leading_number : (q M d : ℕ) (w : List ℕ) → 1 ≤ q → d ≤ M → Word q M w → numerator q w / q ^ (M - d) ≡ numerator q (take d w)
leading_number q M zero w some h word =
    div-eq_of_lt (subst (λ k. numerator q w < q ^ k) (omega arith) (word_number_below q M w word))
leading_number q zero (suc d) w some h word = elim h [ ]
leading_number q (suc M) (suc d) [] some h word = let no : 1 ≤ 0 = omega (arith, word.0) in elim no [ ]
leading_number q (suc M) (suc d) (x ∷ xs) some h word =
    let tail = word_tail q M x xs word in
    let rest : suc M - suc d ≡ M - d = omega arith in
    let pos : 0 < q ^ (M - d) = one-le-pow (M - d) q some in
    let split : q ^ M ≡ q ^ d * q ^ (M - d) = ap (λ k. q ^ k) (omega (arith, h)) ∙ pow-add q d (M - d) in
    let whole : numerator q (x ∷ xs) ≡ x * q ^ d * q ^ (M - d) + numerator q xs =
    ap (λ k. x * q ^ k + numerator q xs) tail.0 ∙ ap (λ k. x * k + numerator q xs) split ∙ ap (λ k. k + numerator q xs) (sym (mul_assoc x (q ^ d) (q ^ (M - d)))) in
    ap₂ (λ n k. n / q ^ k) whole rest
    ∙ mul-add-div_right pos (x * q ^ d) (numerator q xs)
    ∙ ap₂ (λ k n. x * q ^ k + n) (sym (length-take-le d xs (omega (arith, h, tail.0)))) (leading_number q M d xs some (omega (arith, h)) tail)
