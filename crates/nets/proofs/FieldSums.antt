-- Sums over a field: sums of sums, of multiples, in the other order, and from the first term on. Assumes nothing.
use Rattle.std.proofs.Common.{◌≡◌, ℕ, zero, suc, ◌+◌, ◌<◌, sym, refl, ap, ◌∙◌, add-zero, add-suc, arith}
use Rattle.base.proofs.FieldAlgebra.{product_zero_right, sum_over_digit, sum_zero_right, zero_digit}
use Rattle.base.specs.Fields.{FieldLaws, FieldModel, sum_over}

module _ (F : FieldModel) (laws : FieldLaws F) where
  -- (a + b) + (c + d) = (a + c) + (b + d)
  pub sum_interchanged : (a b c d : ℕ) → a < F.q → b < F.q → c < F.q → d < F.q
      → F.sum (F.sum a b) (F.sum c d) ≡ F.sum (F.sum a c) (F.sum b d)
  sum_interchanged a b c d h i j k =
      laws.sum_assoc a b (F.sum c d) h i (laws.sum_digit c d j k)
      ∙ ap (F.sum a) (sym (laws.sum_assoc b c d i j k) ∙ ap (λ x. F.sum x d) (laws.sum_comm b c i j) ∙ laws.sum_assoc c b d j i k)
      ∙ sym (laws.sum_assoc a c (F.sum b d) h j (laws.sum_digit b d i k))

  pub sum_over_sums : (n : ℕ) (f g : ℕ → ℕ) → ((i : ℕ) → i < n → f i < F.q) → ((i : ℕ) → i < n → g i < F.q)
      → sum_over F n (λ i. F.sum (f i) (g i)) ≡ F.sum (sum_over F n f) (sum_over F n g)
  sum_over_sums zero f g a b = sym (laws.sum_zero 0 (zero_digit F laws))
  sum_over_sums (suc n) f g a b =
      let fs : (i : ℕ) → i < n → f i < F.q = λ i h. a i (omega (arith, h)) in
      let gs : (i : ℕ) → i < n → g i < F.q = λ i h. b i (omega (arith, h)) in
      ap (λ x. F.sum x (F.sum (f n) (g n))) (sum_over_sums n f g fs gs)
      ∙ sum_interchanged (sum_over F n f) (sum_over F n g) (f n) (g n) (sum_over_digit F laws n f fs) (sum_over_digit F laws n g gs)
      (a n (omega arith)) (b n (omega arith))

  pub sum_over_multiples : (n c : ℕ) (f : ℕ → ℕ) → c < F.q → ((i : ℕ) → i < n → f i < F.q)
      → sum_over F n (λ i. F.product c (f i)) ≡ F.product c (sum_over F n f)
  sum_over_multiples zero c f h a = sym (product_zero_right F laws c h)
  sum_over_multiples (suc n) c f h a =
      let fs : (i : ℕ) → i < n → f i < F.q = λ i l. a i (omega (arith, l)) in
      ap (λ x. F.sum x (F.product c (f n))) (sum_over_multiples n c f h fs)
      ∙ sym (laws.distributes c (sum_over F n f) (f n) h (sum_over_digit F laws n f fs) (a n (omega arith)))

  pub sum_over_none : (n : ℕ) → sum_over F n (λ i. 0) ≡ 0
  sum_over_none zero = refl
  sum_over_none (suc n) = ap (λ x. F.sum x 0) (sum_over_none n) ∙ laws.sum_zero 0 (zero_digit F laws)

  pub sum_over_swapped : (n m : ℕ) (f : ℕ → ℕ → ℕ) → ((i j : ℕ) → i < n → j < m → f i j < F.q)
      → sum_over F n (λ i. sum_over F m (f i)) ≡ sum_over F m (λ j. sum_over F n (λ i. f i j))
  sum_over_swapped zero m f a = sym (sum_over_none m)
  sum_over_swapped (suc n) m f a =
      let fs : (i j : ℕ) → i < n → j < m → f i j < F.q = λ i j h k. a i j (omega (arith, h)) k in
      ap (λ x. F.sum x (sum_over F m (f n))) (sum_over_swapped n m f fs)
      ∙ sym (sum_over_sums m (λ j. sum_over F n (λ i. f i j)) (f n)
      (λ j k. sum_over_digit F laws n (λ i. f i j) (λ i h. fs i j h k))
      (λ j k. a n j (omega arith) k))

  -- the first term taken out
  pub sum_over_first : (n : ℕ) (f : ℕ → ℕ) → ((i : ℕ) → i < suc n → f i < F.q)
      → sum_over F (suc n) f ≡ F.sum (f 0) (sum_over F n (λ i. f (suc i)))
  sum_over_first zero f a = laws.sum_comm 0 (f 0) (zero_digit F laws) (a 0 (omega arith))
  sum_over_first (suc n) f a =
      let later : (i : ℕ) → i < n → f (suc i) < F.q = λ i h. a (suc i) (omega (arith, h)) in
      ap (λ x. F.sum x (f (suc n))) (sum_over_first n f (λ i h. a i (omega (arith, h))))
      ∙ laws.sum_assoc (f 0) (sum_over F n (λ i. f (suc i))) (f (suc n)) (a 0 (omega arith)) (sum_over_digit F laws n (λ i. f (suc i)) later)
      (a (suc n) (omega arith))

  -- a sum in two parts
  pub sum_over_joined : (a b : ℕ) (f : ℕ → ℕ) → ((i : ℕ) → i < a + b → f i < F.q)
      → sum_over F (a + b) f ≡ F.sum (sum_over F a f) (sum_over F b (λ i. f (a + i)))
  sum_over_joined a zero f digits =
      ap (λ k. sum_over F k f) (add-zero a) ∙ sym (sum_zero_right F laws (sum_over F a f) (sum_over_digit F laws a f (λ i h. digits i (omega (arith, h)))))
  sum_over_joined a (suc b) f digits =
      ap (λ k. sum_over F k f) (add-suc a b)
      ∙ ap (λ x. F.sum x (f (a + b))) (sum_over_joined a b f (λ i h. digits i (omega (arith, h))))
      ∙ laws.sum_assoc (sum_over F a f) (sum_over F b (λ i. f (a + i))) (f (a + b)) (sum_over_digit F laws a f (λ i h. digits i (omega (arith, h))))
      (sum_over_digit F laws b (λ i. f (a + i)) (λ i h. digits (a + i) (omega (arith, h)))) (digits (a + b) (omega arith))
