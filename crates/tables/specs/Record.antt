-- The layout of a record of a direction list. Assumes nothing.
use Rattle.std.specs.Prelude.{◌≡◌, ℕ, ◌+◌, ◌-◌, ◌*◌, ◌/◌, ◌%◌, ◌^◌, ◌<◌, ◌≤◌, List, length, drop, slice_index}

-- the number in two bytes from the place i on, low byte first
abbrev pub pair : List ℕ → ℕ → ℕ
pair bytes i = slice_index bytes i + 256 * slice_index bytes (i + 1)

-- the degree of the polynomial
abbrev pub degree : List ℕ → ℕ
degree bytes = slice_index bytes 0

-- the polynomial as a binary number: its bit at 2^i is the coefficient of x^i
abbrev pub polynomial : List ℕ → ℕ
polynomial bytes = pair bytes 2

-- m_i among the numbers of a record, two bytes each, for i from 1 to 8
abbrev pub given : List ℕ → ℕ → ℕ
given numbers i = pair numbers (2 * (i - 1))

-- the given direction number m_i: the numbers stand behind four bytes
abbrev pub initial : List ℕ → ℕ → ℕ
initial bytes i = given (drop 4 bytes) i

-- a sound head of a record, from degree, byte 1 and polynomial: the degree is at most 8; byte 1 is 0; the polynomial's
-- top coefficient stands at 2^degree, and its lowest coefficient is 1 (so degree 0 has the polynomial 1)
abbrev pub HeadOf : ℕ → ℕ → ℕ → Type 0
HeadOf d z p = (d ≤ 8) × (z ≡ 0) × (p / 2 ^ d ≡ 1) × (p % 2 ≡ 1)

-- the head of a record is sound
abbrev pub Head : List ℕ → Type 0
Head bytes = HeadOf (degree bytes) (slice_index bytes 1) (polynomial bytes)

-- the numbers past m_d are 0
abbrev pub TailOf : ℕ → List ℕ → Type 0
TailOf d numbers = (i : ℕ) → d < i → i ≤ 8 → given numbers i ≡ 0

-- the numbers of a record past m_degree are 0
abbrev pub Tail : List ℕ → Type 0
Tail bytes = TailOf (degree bytes) (drop 4 bytes)

-- a record keeps the layout: it has 20 bytes, with such a head and such a tail
abbrev pub Layout : List ℕ → Type 0
Layout bytes = (length bytes ≡ 20) × Head bytes × Tail bytes
