-- A field from its functions on digits, with the fixed answers to anything else. Assumes nothing.
use Rattle.std.specs.Prelude.{ℕ, if◌then◌else◌, ◌&&◌, None, Option, nat_lt}
use Rattle.base.specs.Fields.{FieldModel}

-- f on two digits below q, else 0
abbrev pub on_digits : ℕ → (ℕ → ℕ → ℕ) → ℕ → ℕ → ℕ
on_digits q f a b = if nat_lt a q && nat_lt b q then f a b else 0

-- the field of q elements with these functions on digits; else sum, product and negative are 0, and the inverse is absent
abbrev pub field_on : ℕ → (ℕ → ℕ → ℕ) → (ℕ → ℕ → ℕ) → (ℕ → ℕ) → (ℕ → Option ℕ) → FieldModel
field_on q sum product negative inverse =
    record {
      q = q;
      sum = on_digits q sum;
      product = on_digits q product;
      negative = λ a. if nat_lt a q then negative a else 0;
      inverse = λ a. if nat_lt a q then inverse a else None;
    }
