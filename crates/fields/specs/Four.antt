-- The field of four elements. Assumes nothing.
use Rattle.std.specs.Prelude.{ℕ, ◌+◌, ◌*◌, if◌then◌else◌, List, [], ◌∷◌, Some, None, Option, ◌==◌, bit_xor, slice_index}
use Rattle.base.specs.Fields.{FieldModel}
use Rattle.fields.specs.Guarded.{field_on}

-- the products, row by row: 0 and 1 as ever, 2 times 2 is 3, 2 times 3 is 1, 3 times 3 is 2
abbrev pub products : List ℕ
products = 0 ∷ 0 ∷ 0 ∷ 0 ∷ 0 ∷ 1 ∷ 2 ∷ 3 ∷ 0 ∷ 2 ∷ 3 ∷ 1 ∷ 0 ∷ 3 ∷ 1 ∷ 2 ∷ []

-- 1 is its own inverse, 2 and 3 are each other's
abbrev pub four_inverse : ℕ → Option ℕ
four_inverse a = if a == 1 then Some 1 else if a == 2 then Some 3 else if a == 3 then Some 2 else None

-- sum is exclusive-or, and each element is its own negative
abbrev pub four_field : FieldModel
four_field = field_on 4 bit_xor (λ a b. slice_index products (4 * a + b)) (λ a. a) four_inverse
