-- Primitive polynomials over two elements. A polynomial is a binary number: its bit at 2^i is the coefficient of x^i.
-- Assumes nothing.
use Rattle.std.specs.Prelude.{◌≡◌, ℕ, ◌-◌, ◌*◌, ◌^◌, ◌<◌, Bool, cond, List, [], ◌∷◌, bit_xor}

-- the product of two polynomials; the first is the list of its coefficients, that of x^0 first
abbrev pub product : List Bool → ℕ → ℕ
product [] p = 0
product (b ∷ bs) p = bit_xor (cond b p 0) (2 * product bs p)

-- x^e leaves the remainder r modulo p of degree d: x^e is a multiple of p plus r, and the degree of r is below d
pub record Leaves (d p e r : ℕ) : Type 0 where
  pub quotient : List Bool
  pub multiple : 2 ^ e ≡ bit_xor (product quotient p) r
  pub small : r < 2 ^ d

-- p of degree d is primitive: the least e above 0 for which x^e leaves the remainder 1 is 2^d - 1
pub record Primitive (d p : ℕ) : Type 0 where
  pub returns : Leaves d p (2 ^ d - 1) 1
  pub first : (e : ℕ) → 0 < e → e < 2 ^ d - 1 → Leaves d p e 1 → ⊥
