-- What a record gives. Assumes nothing.
use Rattle.std.specs.Prelude.{◌≡◌, ℕ, ◌-◌, ◌*◌, ◌%◌, ◌^◌, ◌<◌, List, slice_index}
use Rattle.tables.specs.Record.{Layout, degree, initial, polynomial}
use Rattle.tables.specs.declared.record.Given.{Given}

-- the record keeps the layout, and its polynomial and its numbers, m_1 first, are these
pub record GivenBy (bytes : List ℕ) (g : Given) : Type 0 where
  pub layout : Layout bytes
  pub degree_is : g.polynomial.degree ≡ degree bytes
  pub polynomial_is : g.polynomial.bits ≡ polynomial bytes
  pub numbers_are : (i : ℕ) → slice_index g.numbers (i - 1) ≡ initial bytes i

-- m_1 to m_degree are admissible: that at place k is odd and below 2^(k+1)
abbrev pub OddAndSmall : Given → Type 0
OddAndSmall g =
    (k : ℕ) → k < g.polynomial.degree → (slice_index g.numbers k % 2 ≡ 1) × (slice_index g.numbers k < 2 * 2 ^ k)
