-- There is only one field of two elements: its sum is the exclusive or of two bits, and its product the product of numbers.
-- So the bits of an exclusive or are the sums of the bits. Assumes nothing.
use Rattle.std.proofs.Common.{◌≡◌, ℕ, zero, suc, ◌*◌, ◌/◌, ◌%◌, ◌^◌, ◌<◌, sym, ap, ◌∙◌, ⊎_elim, arith}
use lib.Bits.{bit_xor, xor_mod, xor_shr}
use Rattle.std.proofs.lemmas.Bool.{cases_eq}
use Rattle.base.proofs.FieldAlgebra.{product_zero_left, sum_zero_right}
use Rattle.base.specs.Fields.{FieldLaws, FieldModel}
use Rattle.base.specs.Orders.{digit}

-- the bit of n at 2^i is 0 or 1
pub bit_below : (n i : ℕ) → digit 2 n i < 2
bit_below n i = omega arith

module _ (F : FieldModel) (laws : FieldLaws F) (two : F.q ≡ 2) where
  pub bit_digit : (n i : ℕ) → digit 2 n i < F.q
  bit_digit n i = omega (arith, bit_below n i, two)

  -- 1 + 1 = 0, since the negative of 1 is not 0
  one_and_one : F.sum 1 1 ≡ 0
  one_and_one =
      let one : 1 < F.q = laws.limits.0 in
      ⊎_elim (λ none. omega (arith, sum_zero_right F laws 1 one, ap (F.sum 1) (sym none) ∙ laws.sum_negative 1 one))
      (λ some. ap (F.sum 1) (omega (arith, laws.negative_digit 1 one, some, two)) ∙ laws.sum_negative 1 one) (cases_eq (F.negative 1) 0)

  -- the sum of two bits is their exclusive or
  pub sum_of_bits : (a b : ℕ) → a < 2 → b < 2 → F.sum a b ≡ bit_xor a b
  sum_of_bits zero b h k = laws.sum_zero b (omega (arith, two))
  sum_of_bits (suc zero) zero h k = sum_zero_right F laws 1 (omega (arith, two))
  sum_of_bits (suc zero) (suc zero) h k = one_and_one
  sum_of_bits (suc zero) (suc (suc b)) h k = omega (arith, k)
  sum_of_bits (suc (suc a)) b h k = omega (arith, h)

  -- the product of two bits is that of the numbers
  pub product_of_bits : (a b : ℕ) → a < 2 → b < 2 → F.product a b ≡ a * b
  product_of_bits zero b h k = product_zero_left F laws b (omega (arith, two)) ∙ omega arith
  product_of_bits (suc zero) b h k = laws.product_one b (omega (arith, two)) ∙ omega arith
  product_of_bits (suc (suc a)) b h k = omega (arith, h)

  -- the bits of an exclusive or
  pub bit_of_xor : (a b i : ℕ) → digit 2 (bit_xor a b) i ≡ F.sum (digit 2 a i) (digit 2 b i)
  bit_of_xor a b i =
      ap (λ n. n % 2) (xor_shr a b i) ∙ xor_mod (a / 2 ^ i) (b / 2 ^ i) 1
      ∙ sym (sum_of_bits (digit 2 a i) (digit 2 b i) (bit_below a i) (bit_below b i))
