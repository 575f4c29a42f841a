-- Digit fields: what one means, and the laws that it keeps. Assumes nothing.
use Rattle.std.specs.Prelude.{◌≡◌, ℕ, zero, suc, ◌<◌, ◌≤◌, ◌⊎◌, Some, None, Option, ◌≢◌}
use Rattle.base.specs.Tables.{BaseLimits}

-- a field of q elements, on the digits below q: sum, product, negative and inverse
pub record FieldModel : Type 0 where
  pub q : ℕ
  pub sum : ℕ → ℕ → ℕ
  pub product : ℕ → ℕ → ℕ
  pub negative : ℕ → ℕ
  pub inverse : ℕ → Option ℕ

-- the laws of a field on its digits, and the fixed answers to anything that is no digit
pub record FieldLaws (F : FieldModel) : Type 0 where
  pub limits : BaseLimits F.q
  pub sum_digit : (a b : ℕ) → a < F.q → b < F.q → F.sum a b < F.q
  pub product_digit : (a b : ℕ) → a < F.q → b < F.q → F.product a b < F.q
  pub negative_digit : (a : ℕ) → a < F.q → F.negative a < F.q
  pub sum_assoc : (a b c : ℕ) → a < F.q → b < F.q → c < F.q → F.sum (F.sum a b) c ≡ F.sum a (F.sum b c)
  pub sum_comm : (a b : ℕ) → a < F.q → b < F.q → F.sum a b ≡ F.sum b a
  pub sum_zero : (a : ℕ) → a < F.q → F.sum 0 a ≡ a
  pub sum_negative : (a : ℕ) → a < F.q → F.sum a (F.negative a) ≡ 0
  pub product_assoc : (a b c : ℕ) → a < F.q → b < F.q → c < F.q
      → F.product (F.product a b) c ≡ F.product a (F.product b c)
  pub product_comm : (a b : ℕ) → a < F.q → b < F.q → F.product a b ≡ F.product b a
  pub product_one : (a : ℕ) → a < F.q → F.product 1 a ≡ a
  pub distributes : (a b c : ℕ) → a < F.q → b < F.q → c < F.q
      → F.product a (F.sum b c) ≡ F.sum (F.product a b) (F.product a c)
  pub inverse_is : (a : ℕ) → a < F.q → (a ≢ 0) → (b : ℕ) × (F.inverse a ≡ Some b) × (b < F.q) × (F.product a b ≡ 1)
  pub inverse_of_zero : F.inverse 0 ≡ None
  pub sum_outside : (a b : ℕ) → (F.q ≤ a) ⊎ (F.q ≤ b) → F.sum a b ≡ 0
  pub product_outside : (a b : ℕ) → (F.q ≤ a) ⊎ (F.q ≤ b) → F.product a b ≡ 0
  pub negative_outside : (a : ℕ) → F.q ≤ a → F.negative a ≡ 0
  pub inverse_outside : (a : ℕ) → F.q ≤ a → F.inverse a ≡ None

-- the field's sum of f 0 to f (n - 1)
abbrev pub sum_over : FieldModel → ℕ → (ℕ → ℕ) → ℕ
sum_over F zero f = 0
sum_over F (suc n) f = F.sum (sum_over F n f) (f n)
