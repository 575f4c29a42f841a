-- Division of polynomials over two elements, which are binary numbers as in specs/Primitive.antt.
-- Sums of multiples are multiples, and no multiple of a polynomial of degree d but 0 has a degree below d.
-- So a remainder is unique, and the remainder of x^(e + 1) comes from that of x^e.
-- Assumes nothing.
use Rattle.std.proofs.Common.{◌≡◌, ℕ, ◌+◌, ◌-◌, ◌*◌, ◌/◌, ◌%◌, ◌^◌, ◌<◌, ◌≤◌, Bool, true, false, cond, eqb, ◌⊎◌, List, [], ◌∷◌, Decides, sym, refl, ap, ◌∙◌, subst, ap₂, inl, inr, add-zero, mod-lt, mul_comm, add-one, arith, pow_pos, pow_mono, below_more}
use mathlib.Core.Bool.{xor, false≢true}
use native.Mathlib.Nat.{pow-succ'}
use lib.Bits.{bit_xor, xor_comm, xor_assoc, xor_self, xor_zero_r, xor_lt, xor_block, xor_shr}
use lib.Pow.{split}
use Rattle.std.proofs.lemmas.Nat.{div_below}
use Rattle.std.proofs.lemmas.Bool.Decides.{Decides-eqb, Decides-like}
use Rattle.tables.specs.Primitive.{product, Leaves, Primitive}

-- ---- exclusive or

xor_swap : (a b c d : ℕ) → bit_xor (bit_xor a b) (bit_xor c d) ≡ bit_xor (bit_xor a c) (bit_xor b d)
xor_swap a b c d =
    xor_assoc a b (bit_xor c d)
    ∙ ap (bit_xor a) (sym (xor_assoc b c d) ∙ ap (λ x. bit_xor x d) (xor_comm b c) ∙ xor_assoc c b d)
    ∙ sym (xor_assoc a c (bit_xor b d))

xor_cancel : (a b : ℕ) → bit_xor a (bit_xor a b) ≡ b
xor_cancel a b = sym (xor_assoc a a b) ∙ ap (λ x. bit_xor x b) (xor_self a)

equal_from_xor : (a b : ℕ) → bit_xor a b ≡ 0 → a ≡ b
equal_from_xor a b h = sym (xor_zero_r a) ∙ ap (bit_xor a) (sym h) ∙ xor_cancel a b

double_xor : (a b : ℕ) → 2 * bit_xor a b ≡ bit_xor (2 * a) (2 * b)
double_xor a b = simp (mul_comm 2) (sym (simp add-zero at (xor_block 1 a b 0 0 (pow_pos 1) (pow_pos 1))))

-- ---- degrees

double_pow : (e : ℕ) → 2 ^ (e + 1) ≡ 2 * 2 ^ e
double_pow e = ap (λ x. 2 ^ x) (add-one e) ∙ pow-succ' 2 e

-- n is at least its quotient's multiple of 2^d, and below the next
between : (n d q : ℕ) → n / 2 ^ d ≡ q → (q * 2 ^ d ≤ n) × (n < q * 2 ^ d + 2 ^ d)
between n d q h =
    let s : q * 2 ^ d + n % 2 ^ d ≡ n = rw h at (split n d) in
    let m : n % 2 ^ d < 2 ^ d = mod-lt n (pow_pos d) in
    (omega arith, omega arith)

-- ---- multiples

sum_of_coefficients : (p : ℕ) (b c : Bool) → cond (xor b c) p 0 ≡ bit_xor (cond b p 0) (cond c p 0)
unfolding xor
sum_of_coefficients p true true = sym (xor_self p)
sum_of_coefficients p true false = sym (xor_zero_r p)
sum_of_coefficients p false true = refl
sum_of_coefficients p false false = refl

sum_of_multiples : (p : ℕ) (g h : List Bool) → (k : List Bool) × (product k p ≡ bit_xor (product g p) (product h p))
sum_of_multiples p [] h = (h, refl)
sum_of_multiples p (b ∷ g) [] = (b ∷ g, sym (xor_zero_r (product (b ∷ g) p)))
sum_of_multiples p (b ∷ g) (c ∷ h) =
    let k = sum_of_multiples p g h in (
      xor b c ∷ k.0,
      ap₂ bit_xor (sum_of_coefficients p b c) (ap (λ x. 2 * x) k.1 ∙ double_xor (product g p) (product h p))
          ∙ xor_swap (cond b p 0) (cond c p 0) (2 * product g p) (2 * product h p),
    )

coefficient_is : (p : ℕ) (b : Bool) → (cond b p 0 ≡ p) ⊎ (cond b p 0 ≡ 0)
coefficient_is p true = inl refl
coefficient_is p false = inr refl

no_small_multiple : (d p : ℕ) (g : List Bool) → p / 2 ^ d ≡ 1 → product g p < 2 ^ d → product g p ≡ 0
no_small_multiple d p [] hp h = refl
no_small_multiple d p (b ∷ g) hp h =
    let q = between p d 1 hp in
    let w = double_pow d in
    let c = coefficient_is p b in
    let below : bit_xor (cond b p 0) (product (b ∷ g) p) < 2 ^ (d + 1) = xor_lt (d + 1) (cond b p 0) (product (b ∷ g) p) (omega arith) (omega arith) in
    let half : 2 * product g p < 2 ^ (d + 1) = rw xor_cancel at below in
    let rest : product g p ≡ 0 = no_small_multiple d p g hp (omega arith) in
    let this : product (b ∷ g) p ≡ cond b p 0 = ap (λ x. bit_xor (cond b p 0) (2 * x)) rest ∙ xor_zero_r (cond b p 0) in
    omega arith

-- ---- remainders

remainder_unique : (d p e r s : ℕ) → p / 2 ^ d ≡ 1 → Leaves d p e r → Leaves d p e s → r ≡ s
remainder_unique d p e r s hp x y =
    let g : ℕ = product x.quotient p in
    let h : ℕ = product y.quotient p in
    let k = sum_of_multiples p x.quotient y.quotient in
    let both : bit_xor (bit_xor g h) (bit_xor r s) ≡ 0 = xor_swap g h r s ∙ ap₂ bit_xor (sym x.multiple) (sym y.multiple) ∙ xor_self (2 ^ e) in
    let same : product k.0 p ≡ bit_xor r s = k.1 ∙ equal_from_xor (bit_xor g h) (bit_xor r s) both in
    equal_from_xor r s (sym same ∙ no_small_multiple d p k.0 hp (rw same (xor_lt d r s x.small y.small)))

-- b is the quotient's new coefficient of x^0: either will do that leaves a small remainder
remainder_times_x : (d p e r s : ℕ) (b : Bool) → s ≡ bit_xor (cond b p 0) (2 * r) → s < 2 ^ d → Leaves d p e r → Leaves d p (e + 1) s
remainder_times_x d p e r s b is h x =
    let c : ℕ = cond b p 0 in
    let g : ℕ = product x.quotient p in
    record {
      quotient = b ∷ x.quotient;
      multiple = double_pow e ∙ ap (λ n. 2 * n) x.multiple ∙ double_xor g r
          ∙ ap (λ n. bit_xor n (bit_xor (2 * g) (2 * r))) (sym (xor_self c))
          ∙ xor_swap c c (2 * g) (2 * r) ∙ ap (bit_xor (bit_xor c (2 * g))) (sym is);
      small = h;
    }

pub next_if_below : (d p r n : ℕ) → n ≡ 2 * r → n / 2 ^ d ≡ 0 → (n < 2 ^ d) × ((e : ℕ) → Leaves d p e r → Leaves d p (e + 1) n)
next_if_below d p r n is h =
    let small : n < 2 ^ d = omega (arith, between n d 0 h) in
    (small, λ e. remainder_times_x d p e r n false is small)

pub next_if_not_below : (d p r n : ℕ) → p / 2 ^ d ≡ 1 → r < 2 ^ d → n ≡ 2 * r → (n / 2 ^ d ≡ 0 → ⊥)
    → (bit_xor n p < 2 ^ d) × ((e : ℕ) → Leaves d p e r → Leaves d p (e + 1) (bit_xor n p))
next_if_not_below d p r n hp hr is h =
    let one : n / 2 ^ d ≡ 1 = omega (arith, div_below n (2 ^ d) 2 (pow_pos d) (omega arith)) in
    let none : bit_xor n p / 2 ^ d ≡ 0 = xor_shr n p d ∙ ap₂ bit_xor one hp in
    let small : bit_xor n p < 2 ^ d = omega (arith, between (bit_xor n p) d 0 none) in
    (small, λ e. remainder_times_x d p e r (bit_xor n p) true (xor_comm n p ∙ ap (bit_xor p) is) small)

pub one_leaves_one : (d p : ℕ) → 1 ≤ d → Leaves d p 0 1
one_leaves_one d p h = record { quotient = []; multiple = refl; small = pow_mono h }

-- ---- when x comes back to 1

-- no x^e with e above 0 and below n leaves the remainder 1
abbrev pub NoneBelow : ℕ → ℕ → ℕ → Type 0
NoneBelow d p n = (e : ℕ) → e < n → 0 < e → Leaves d p e 1 → ⊥

pub none_below_next : (d p n r : ℕ) → p / 2 ^ d ≡ 1 → Leaves d p n r → (r ≡ 1 → ⊥) → NoneBelow d p n → NoneBelow d p (n + 1)
none_below_next d p n r hp x differs none =
    below_more (λ e. 0 < e → Leaves d p e 1 → ⊥) n none (λ _ y. differs (remainder_unique d p n r 1 hp x y))

pub back_early_decides : (d p e r : ℕ) → 0 < e → e < 2 ^ d - 1 → r ≡ 1 → Leaves d p e r → Decides false (Primitive d p)
back_early_decides d p e r h l is x =
    (λ f. absurd (false≢true f), λ y. absurd (y.first e h l (subst (Leaves d p e) is x)))

pub last_decides : (d p n r : ℕ) → p / 2 ^ d ≡ 1 → n ≡ 2 ^ d - 1 → Leaves d p n r → NoneBelow d p n → Decides (eqb r 1) (Primitive d p)
last_decides d p n r hp last x none =
    let y : Leaves d p (2 ^ d - 1) r = subst (λ e. Leaves d p e r) last x in
    Decides-like (eqb r 1)
    (λ is. record { returns = subst (Leaves d p (2 ^ d - 1)) is y; first = λ e h l. none e (omega arith) h })
    (λ z. remainder_unique d p (2 ^ d - 1) r 1 hp y z.returns)
    (Decides-eqb r 1)
