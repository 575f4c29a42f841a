-- The laws of a field follow from the laws of its functions on digits: the guards against other numbers do no harm.
-- Assumes nothing.
use Rattle.std.specs.Prelude.{◌≡◌, ℕ, ◌<◌, ◌≤◌, cond, ◌&&◌, ◌⊎◌, Some, None, Option, ◌≢◌, nat_lt}
use Rattle.std.proofs.Common.{sym, ◌∙◌, ap, ⊎_elim, arith}
use Rattle.std.proofs.lemmas.Bool.{and_from, and_left, and_right, cond-false, cond-true, le-ltb, lt-ltb}
use Rattle.base.specs.Fields.{FieldLaws}
use Rattle.base.specs.Tables.{BaseLimits}
use Rattle.fields.specs.Guarded.{field_on, on_digits}

-- the laws of a field, of functions on the digits below q
pub record DigitLaws (q : ℕ) (sum product : ℕ → ℕ → ℕ) (negative : ℕ → ℕ) (inverse : ℕ → Option ℕ) : Type 0 where
  pub sum_digit : (a b : ℕ) → a < q → b < q → sum a b < q
  pub product_digit : (a b : ℕ) → a < q → b < q → product a b < q
  pub negative_digit : (a : ℕ) → a < q → negative a < q
  pub sum_assoc : (a b c : ℕ) → a < q → b < q → c < q → sum (sum a b) c ≡ sum a (sum b c)
  pub sum_comm : (a b : ℕ) → a < q → b < q → sum a b ≡ sum b a
  pub sum_zero : (a : ℕ) → a < q → sum 0 a ≡ a
  pub sum_negative : (a : ℕ) → a < q → sum a (negative a) ≡ 0
  pub product_assoc : (a b c : ℕ) → a < q → b < q → c < q → product (product a b) c ≡ product a (product b c)
  pub product_comm : (a b : ℕ) → a < q → b < q → product a b ≡ product b a
  pub product_one : (a : ℕ) → a < q → product 1 a ≡ a
  pub distributes : (a b c : ℕ) → a < q → b < q → c < q → product a (sum b c) ≡ sum (product a b) (product a c)
  pub inverse_is : (a : ℕ) → a < q → (a ≢ 0) → (b : ℕ) × (inverse a ≡ Some b) × (b < q) × (product a b ≡ 1)
  pub inverse_of_zero : inverse 0 ≡ None

-- on digits, a guarded function is the function
on : (q : ℕ) (f : ℕ → ℕ → ℕ) (a b : ℕ) → a < q → b < q → on_digits q f a b ≡ f a b
on q f a b h k = cond-true (nat_lt a q && nat_lt b q) (f a b) 0 (and_from (nat_lt a q) (nat_lt b q) (lt-ltb a q h) (lt-ltb b q k))

on_one : {X : Type 0} (q a : ℕ) (x y : X) → a < q → cond (nat_lt a q) x y ≡ x
on_one q a x y h = cond-true (nat_lt a q) x y (lt-ltb a q h)

off_one : {X : Type 0} (q a : ℕ) (x y : X) → q ≤ a → cond (nat_lt a q) x y ≡ y
off_one q a x y h = cond-false (nat_lt a q) x y (le-ltb a q h)

off : (q : ℕ) (f : ℕ → ℕ → ℕ) (a b : ℕ) → (q ≤ a) ⊎ (q ≤ b) → on_digits q f a b ≡ 0
off q f a b =
    ⊎_elim (λ h. cond-false (nat_lt a q && nat_lt b q) (f a b) 0 (and_left (nat_lt a q) (nat_lt b q) (le-ltb a q h)))
    (λ h. cond-false (nat_lt a q && nat_lt b q) (f a b) 0 (and_right (nat_lt a q) (nat_lt b q) (le-ltb b q h)))

-- a law of three digits, f (g a b) c ≡ f a (g b c), on guarded functions
on_assoc : (q : ℕ) (f : ℕ → ℕ → ℕ) → ((a b : ℕ) → a < q → b < q → f a b < q)
    → ((a b c : ℕ) → a < q → b < q → c < q → f (f a b) c ≡ f a (f b c)) → (a b c : ℕ) → a < q → b < q → c < q
    → on_digits q f (on_digits q f a b) c ≡ on_digits q f a (on_digits q f b c)
on_assoc q f digit law a b c h k l =
    ap (λ x. on_digits q f x c) (on q f a b h k) ∙ on q f (f a b) c (digit a b h k) l ∙ law a b c h k l
    ∙ sym (ap (on_digits q f a) (on q f b c k l) ∙ on q f a (f b c) h (digit b c k l))

module _ (q : ℕ) (sum product : ℕ → ℕ → ℕ) (negative : ℕ → ℕ) (inverse : ℕ → Option ℕ) (limits : BaseLimits q) (laws : DigitLaws q sum product negative inverse) where
  on_distributes : (a b c : ℕ) → a < q → b < q → c < q
      → on_digits q product a (on_digits q sum b c) ≡ on_digits q sum (on_digits q product a b) (on_digits q product a c)
  on_distributes a b c h k l =
      ap (on_digits q product a) (on q sum b c k l) ∙ on q product a (sum b c) h (laws.sum_digit b c k l)
      ∙ laws.distributes a b c h k l
      ∙ sym (on q sum (product a b) (product a c) (laws.product_digit a b h k) (laws.product_digit a c h l))
      ∙ sym (ap (λ x. on_digits q sum x (product a c)) (on q product a b h k))
      ∙ sym (ap (on_digits q sum (on_digits q product a b)) (on q product a c h l))

  pub laws_from_digits : FieldLaws (field_on q sum product negative inverse)
  laws_from_digits =
      record {
        limits = limits;
        sum_digit = λ a b h k. rw (on q sum a b h k) (laws.sum_digit a b h k);
        product_digit = λ a b h k. rw (on q product a b h k) (laws.product_digit a b h k);
        negative_digit = λ a h. rw (on_one q a (negative a) 0 h) (laws.negative_digit a h);
        sum_assoc = on_assoc q sum laws.sum_digit laws.sum_assoc;
        sum_comm = λ a b h k. on q sum a b h k ∙ laws.sum_comm a b h k ∙ sym (on q sum b a k h);
        sum_zero = λ a h. on q sum 0 a (omega arith) h ∙ laws.sum_zero a h;
        sum_negative = λ a h.
            ap (on_digits q sum a) (on_one q a (negative a) 0 h) ∙ on q sum a (negative a) h (laws.negative_digit a h)
            ∙ laws.sum_negative a h;
        product_assoc = on_assoc q product laws.product_digit laws.product_assoc;
        product_comm = λ a b h k. on q product a b h k ∙ laws.product_comm a b h k ∙ sym (on q product b a k h);
        product_one = λ a h. on q product 1 a (omega arith) h ∙ laws.product_one a h;
        distributes = on_distributes;
        inverse_is = λ a h ne.
            let i = laws.inverse_is a h ne in
            (i.0, on_one q a (inverse a) None h ∙ i.1, i.2, on q product a i.0 h i.2 ∙ i.3);
        inverse_of_zero = on_one q 0 (inverse 0) None (omega arith) ∙ laws.inverse_of_zero;
        sum_outside = off q sum;
        product_outside = off q product;
        negative_outside = λ a h. off_one q a (negative a) 0 h;
        inverse_outside = λ a h. off_one q a (inverse a) None h;
      }
