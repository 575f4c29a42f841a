-- What follows from the laws of a field, on its digits: 0 in sums and products, cancelling, and sums of many digits.
-- Assumes nothing.
use Rattle.std.proofs.Common.{◌≡◌, ℕ, zero, suc, ◌+◌, ◌<◌, ◌≤◌, sym, refl, ap, ◌∙◌, ap₂, add-zero, add-suc, arith}
use Rattle.base.specs.Fields.{FieldLaws, FieldModel, sum_over}

module _ (F : FieldModel) (laws : FieldLaws F) where
  pub zero_digit : 0 < F.q
  zero_digit = omega (arith, laws.limits.0)

  pub sum_zero_right : (a : ℕ) → a < F.q → F.sum a 0 ≡ a
  sum_zero_right a h = laws.sum_comm a 0 h zero_digit ∙ laws.sum_zero a h

  -- the negative of a, added to a + b, leaves b
  sum_back : (a b : ℕ) → a < F.q → b < F.q → F.sum (F.negative a) (F.sum a b) ≡ b
  sum_back a b h k =
      let n = laws.negative_digit a h in
      sym (laws.sum_assoc (F.negative a) a b n h k)
      ∙ ap (λ x. F.sum x b) (laws.sum_comm (F.negative a) a n h ∙ laws.sum_negative a h) ∙ laws.sum_zero b k

  pub sum_cancel_left : (a b c : ℕ) → a < F.q → b < F.q → c < F.q → F.sum a b ≡ F.sum a c → b ≡ c
  sum_cancel_left a b c h k l e = sym (sum_back a b h k) ∙ ap (F.sum (F.negative a)) e ∙ sum_back a c h l

  pub product_zero_right : (a : ℕ) → a < F.q → F.product a 0 ≡ 0
  product_zero_right a h =
      let p = laws.product_digit a 0 h zero_digit in
      sum_cancel_left (F.product a 0) (F.product a 0) 0 p p zero_digit
      (sym (laws.distributes a 0 0 h zero_digit zero_digit) ∙ ap (F.product a) (laws.sum_zero 0 zero_digit)
      ∙ sym (sum_zero_right (F.product a 0) p))

  pub product_zero_left : (a : ℕ) → a < F.q → F.product 0 a ≡ 0
  product_zero_left a h = laws.product_comm 0 a zero_digit h ∙ product_zero_right a h

  pub product_cancel_left : (a b c : ℕ) → a < F.q → (a ≡ 0 → ⊥) → b < F.q → c < F.q → F.product a b ≡ F.product a c → b ≡ c
  product_cancel_left a b c h nonzero k l e =
      let i = laws.inverse_is a h nonzero in
      let back : (x : ℕ) → x < F.q → F.product i.0 (F.product a x) ≡ x =
      λ x m. sym (laws.product_assoc i.0 a x i.2 h m)
      ∙ ap (λ y. F.product y x) (laws.product_comm i.0 a i.2 h ∙ i.3) ∙ laws.product_one x m in
      sym (back b k) ∙ ap (F.product i.0) e ∙ back c l

  pub sum_over_digit : (n : ℕ) (f : ℕ → ℕ) → ((i : ℕ) → i < n → f i < F.q) → sum_over F n f < F.q
  sum_over_digit zero f h = zero_digit
  sum_over_digit (suc n) f h =
      laws.sum_digit (sum_over F n f) (f n) (sum_over_digit n f (λ i l. h i (omega arith))) (h n (omega arith))

  -- terms that are 0 add nothing
  pub sum_over_zeros : (n r : ℕ) (f : ℕ → ℕ) → ((i : ℕ) → i < n → f i < F.q) → ((i : ℕ) → n ≤ i → i < n + r → f i ≡ 0)
      → sum_over F (n + r) f ≡ sum_over F n f
  sum_over_zeros n zero f digits none = ap (λ k. sum_over F k f) (add-zero n)
  sum_over_zeros n (suc r) f digits none =
      ap (λ k. sum_over F k f) (add-suc n r)
      ∙ ap₂ F.sum (sum_over_zeros n r f digits (λ i l h. none i l (omega arith))) (none (n + r) (omega arith) (omega arith))
      ∙ sum_zero_right (sum_over F n f) (sum_over_digit n f digits)

pub sum_over_same : (F : FieldModel) (n : ℕ) (f g : ℕ → ℕ) → ((i : ℕ) → i < n → f i ≡ g i) → sum_over F n f ≡ sum_over F n g
sum_over_same F zero f g h = refl
sum_over_same F (suc n) f g h = ap₂ F.sum (sum_over_same F n f g (λ i l. h i (omega arith))) (h n (omega arith))
