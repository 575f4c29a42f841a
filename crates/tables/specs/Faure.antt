-- Faure tables. A polynomial over a field is the list of its coefficients, that of X^0 first. Assumes nothing.
use Rattle.std.specs.Prelude.{ℕ, zero, suc, ◌-◌, ◌<◌, List, [], ◌∷◌, map, slice_index}
use Rattle.base.specs.Faults.{refusal}
use Rattle.base.specs.Fields.{FieldModel}
use Rattle.base.specs.Tables.{Limits, TableModel}
use Rattle.base.specs.Tests.{Test, test}

-- the sum of two polynomials
abbrev pub poly_sum : FieldModel → List ℕ → List ℕ → List ℕ
poly_sum F [] p = p
poly_sum F (x ∷ xs) [] = x ∷ xs
poly_sum F (x ∷ xs) (y ∷ ys) = F.sum x y ∷ poly_sum F xs ys

-- the product of two polynomials: (x + X p) r = x r + X (p r)
abbrev pub poly_product : FieldModel → List ℕ → List ℕ → List ℕ
poly_product F [] r = []
poly_product F (x ∷ p) r = poly_sum F (map (F.product x) r) (0 ∷ poly_product F p r)

-- a power of a polynomial
abbrev pub poly_power : FieldModel → List ℕ → ℕ → List ℕ
poly_power F p zero = 1 ∷ []
poly_power F p (suc n) = poly_product F p (poly_power F p n)

-- the Faure table over a field: in coordinate a, column l holds the coefficients of (a + X)^l, row k that of X^(k-1)
abbrev pub faure_table : FieldModel → ℕ → ℕ → TableModel
faure_table F M s =
    record { q = F.q; digits = M; coordinates = s; entry = λ a k l. slice_index (poly_power F (a ∷ 1 ∷ []) l) (k - 1) }

-- the tests of a Faure table: M and s, then that there is an element for each coordinate
abbrev pub faure_tests : FieldModel → ℕ → ℕ → List Test
faure_tests F M s = test (Limits F.q M s → ⊥) (refusal 2 2 255 0) ∷ test (F.q < s) (refusal 9 2 255 0) ∷ []
