-- The fields of a prime number of elements. Assumes nothing.
use Rattle.std.specs.Prelude.{ℕ, ◌+◌, ◌-◌, ◌*◌, ◌%◌, Bool, true, ◌||◌, List, [], ◌∷◌, Option, ◌==◌, ◌≢◌, find}
use Rattle.std.specs.List.{range_with_len}
use Rattle.base.specs.Faults.{refusal}
use Rattle.base.specs.Fields.{FieldModel}
use Rattle.base.specs.Tests.{Test, test}
use Rattle.fields.specs.Guarded.{field_on}

-- the six primes of the engine
abbrev pub is_prime_size : ℕ → Bool
is_prime_size q = q == 2 || (q == 3 || (q == 5 || (q == 7 || (q == 11 || q == 13))))

-- the first digit above 0 whose product with a is 1 modulo q
abbrev pub inverse_modulo : ℕ → ℕ → Option ℕ
inverse_modulo q a = find (λ b. a * b % q == 1) (range_with_len 1 (q - 1))

-- sum, product and negative modulo q
abbrev pub prime_field : ℕ → FieldModel
prime_field q = field_on q (λ a b. (a + b) % q) (λ a b. a * b % q) (λ a. (q - a) % q) (inverse_modulo q)

-- the test of a prime field's q
abbrev pub prime_tests : ℕ → List Test
prime_tests q = test (is_prime_size q ≢ true) (refusal 1 6 255 0) ∷ []
