-- Digit tables: their limits, and what a table means. Assumes nothing.
use Rattle.std.specs.Prelude.{◌≡◌, ℕ, ◌^◌, ◌<◌, ◌≤◌}

-- the number q of digits: 2 to 16
abbrev pub BaseLimits : ℕ → Type 0
BaseLimits q = (2 ≤ q) × (q ≤ 16)

-- the number M of digits in a word: at least 1, and q^M at most 2^32
abbrev pub DigitLimits : ℕ → ℕ → Type 0
DigitLimits q M = (1 ≤ M) × (q ^ M ≤ 2 ^ 32)

-- the number s of coordinates: 1 to 8
abbrev pub CoordinateLimits : ℕ → Type 0
CoordinateLimits s = (1 ≤ s) × (s ≤ 8)

-- q, M and s are all within the limits
abbrev pub Limits : ℕ → ℕ → ℕ → Type 0
Limits q M s = BaseLimits q × DigitLimits q M × CoordinateLimits s

-- a table: q, M and s, and the digit of coordinate j (from 0) in row k (from 1) and column l (from 0)
pub record TableModel : Type 0 where
  pub q : ℕ
  pub digits : ℕ
  pub coordinates : ℕ
  pub entry : ℕ → ℕ → ℕ → ℕ

-- row k and column l of coordinate j are places of a table of M digits and s coordinates
pub record Inside (M s j k l : ℕ) : Type 0 where
  pub coordinate : j < s
  pub row_least : 1 ≤ k
  pub row_most : k ≤ M
  pub column : l < M

-- two tables have the same q, M and s, and the same digit at each place
pub record SameTable (a b : TableModel) : Type 0 where
  pub q : a.q ≡ b.q
  pub digits : a.digits ≡ b.digits
  pub coordinates : a.coordinates ≡ b.coordinates
  pub entry : (j k l : ℕ) → Inside a.digits a.coordinates j k l → a.entry j k l ≡ b.entry j k l
