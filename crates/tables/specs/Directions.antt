-- Direction numbers: Sobol's recurrence, and the tests of a record. Assumes nothing.
use Rattle.std.specs.Prelude.{◌≡◌, ℕ, zero, suc, ◌-◌, ◌*◌, ◌/◌, ◌%◌, ◌^◌, ◌<◌, ◌≤◌, cond, List, [], ◌∷◌, ◌==◌, bit_xor, nat_le, slice_index}
use Rattle.base.specs.Faults.{refusal}
use Rattle.base.specs.Tests.{Test, test}
use Rattle.tables.specs.Primitive.{Primitive}
use Rattle.tables.specs.Record.{Layout, degree, polynomial, initial}

-- the coefficient of x^i in a polynomial
abbrev pub coefficient : ℕ → ℕ → ℕ
coefficient p i = p / 2 ^ i % 2

-- 2 a_1 m_(i-1) ⊕ .. ⊕ 2^n a_n m_(i-n), where a_k is the coefficient of x^(d-k), and back k is m_(i-k)
abbrev pub terms : ℕ → ℕ → (ℕ → ℕ) → ℕ → ℕ
terms d p back zero = 0
terms d p back (suc k) = bit_xor (terms d p back k) (2 ^ suc k * coefficient p (d - suc k) * back (suc k))

-- Sobol's recurrence, the right side of
-- m_i = 2 a_1 m_(i-1) ⊕ .. ⊕ 2^(d-1) a_(d-1) m_(i-d+1) ⊕ 2^d m_(i-d) ⊕ m_(i-d)
abbrev pub recurrence : ℕ → ℕ → (ℕ → ℕ) → ℕ
recurrence d p back = bit_xor (terms d p back (d - 1)) (bit_xor (2 ^ d * back d) (back d))

-- m is the sequence of direction numbers of a polynomial p of degree d, up to m_n: every number is 1 if d is 0;
-- otherwise the first d numbers are given, and each later one follows from the d before it
pub record Directions (d p : ℕ) (first : ℕ → ℕ) (n : ℕ) (m : ℕ → ℕ) : Type 0 where
  pub ones : d ≡ 0 → (i : ℕ) → 1 ≤ i → i ≤ n → m i ≡ 1
  pub starts : (i : ℕ) → 1 ≤ i → i ≤ d → i ≤ n → m i ≡ first i
  pub follows : 1 ≤ d → (i : ℕ) → d < i → i ≤ n → m i ≡ recurrence d p (λ k. m (i - k))

-- m_i, from the numbers before it with the newest first
abbrev pub following : ℕ → ℕ → (ℕ → ℕ) → ℕ → List ℕ → ℕ
following d p first i before =
    cond (d == 0) 1 (cond (nat_le i d) (first i) (recurrence d p (λ k. slice_index before (k - 1))))

-- m_n to m_1
abbrev pub newest : ℕ → ℕ → (ℕ → ℕ) → ℕ → List ℕ
newest d p first zero = []
newest d p first (suc n) = following d p first (suc n) (newest d p first n) ∷ newest d p first n

-- the direction number m_i: the one sequence that Directions allows
abbrev pub direction : ℕ → ℕ → (ℕ → ℕ) → ℕ → ℕ
direction d p first i = slice_index (newest d p first i) 0

-- the direction number m_i of a record
abbrev pub direction_of : List ℕ → ℕ → ℕ
direction_of bytes i = direction (degree bytes) (polynomial bytes) (initial bytes) i

-- each given number m_i is odd and below 2^i
abbrev pub Admissible : ℕ → (ℕ → ℕ) → Type 0
Admissible d first = (i : ℕ) → 1 ≤ i → i ≤ d → (first i % 2 ≡ 1) × (first i < 2 ^ i)

-- the tests of the record of a coordinate, with its place: its layout; a primitive polynomial, unless its degree is 0;
-- given numbers that are odd and below 2^i
abbrev pub record_tests : List ℕ → ℕ → ℕ → List Test
record_tests bytes coordinate place =
    test (Layout bytes → ⊥) (refusal 4 1 coordinate place)
    ∷ test ((1 ≤ degree bytes) × (Primitive (degree bytes) (polynomial bytes) → ⊥)) (refusal 5 2 coordinate place)
    ∷ test (Admissible (degree bytes) (initial bytes) → ⊥) (refusal 6 2 coordinate place) ∷ []

-- ms holds the direction numbers m_1 to m_32 of a record, m_1 first: those of the definition, which obey the recurrence
pub record Numbers (bytes : List ℕ) (ms : List ℕ) : Type 0 where
  pub are : (i : ℕ) → 1 ≤ i → i ≤ 32 → slice_index ms (i - 1) ≡ direction_of bytes i
  pub obey : Directions (degree bytes) (polynomial bytes) (initial bytes) 32 (λ i. slice_index ms (i - 1))
