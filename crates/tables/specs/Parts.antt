-- The parts of a record. Assumes nothing.
use Rattle.std.specs.Prelude.{◌≡◌, ℕ, ◌≤◌, List, length, drop, slice_index}
use Rattle.tables.specs.declared.record.Parts.{Parts}
use Rattle.tables.specs.Record.{degree, polynomial}

-- the parts of the bytes: degree, byte 1, polynomial, and the bytes of the numbers
pub record TakenApart (bytes : List ℕ) (p : Parts) : Type 0 where
  pub enough : 4 ≤ length bytes
  pub degree_is : p.degree ≡ degree bytes
  pub zero_is : p.zero ≡ slice_index bytes 1
  pub polynomial_is : p.polynomial ≡ polynomial bytes
  pub numbers_are : p.numbers.now ≡ drop 4 bytes
