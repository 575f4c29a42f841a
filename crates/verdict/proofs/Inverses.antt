-- What the inverse of a digit tells: where there is one, it is one; where there is none, the digit is 0. Assumes nothing.
use Rattle.std.proofs.Common.{◌≡◌, ℕ, ◌<◌, Some, None, ap, ◌∙◌, subst, ⊎_elim, arith}
use Rattle.std.proofs.lemmas.Bool.{cases_eq}
use Rattle.base.specs.Fields.{FieldLaws, FieldModel}

module _ (F : FieldModel) (laws : FieldLaws F) (a : ℕ) (h : a < F.q) where
  pub no_inverse_of_zero_alone : None ≡ F.inverse a → a ≡ 0
  no_inverse_of_zero_alone none =
      ⊎_elim (λ e. e)
      (λ ne.
      let found = laws.inverse_is a h ne in
      let is = found.1 in
      let no : ◌≡◌ {A = ℕ} 0 1 = cc in absurd (omega arith))
      (cases_eq a 0)

  pub inverse_inverts : (b : ℕ) → Some b ≡ F.inverse a → (b < F.q) × (F.product a b ≡ 1)
  inverse_inverts b some =
      ⊎_elim
      (λ e.
      let none = ap F.inverse e ∙ laws.inverse_of_zero in
      let no : ◌≡◌ {A = ℕ} 0 1 = cc in absurd (omega arith))
      (λ ne.
      let found = laws.inverse_is a h ne in
      let is = found.1 in
      let same : found.0 ≡ b = cc in
      subst (λ x. (x < F.q) × (F.product a x ≡ 1)) same (found.2, found.3))
      (cases_eq a 0)
