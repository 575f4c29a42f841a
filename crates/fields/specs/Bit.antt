-- The field of two elements. Assumes nothing.
use Rattle.std.specs.Prelude.{if◌then◌else◌, Some, None, ◌==◌, bit_and, bit_xor}
use Rattle.base.specs.Fields.{FieldModel}
use Rattle.fields.specs.Guarded.{field_on}

-- sum is exclusive-or, product is and; 1 is its own inverse
abbrev pub bit_field : FieldModel
bit_field = field_on 2 bit_xor bit_and (λ a. a) (λ a. if a == 1 then Some 1 else None)
