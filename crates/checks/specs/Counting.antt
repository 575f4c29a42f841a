-- The counting check. Assumes nothing.
use Rattle.std.specs.Prelude.{◌≡◌, ℕ, ◌+◌, ◌-◌, ◌*◌, ◌/◌, ◌^◌, ◌≤◌, List, [], ◌∷◌, map, length, take, drop, replicate, slice_index}
use Rattle.std.specs.List.{range_with_len}
use Rattle.base.specs.Digits.{digit_tests}
use Rattle.base.specs.Faults.{refusal}
use Rattle.base.specs.Tables.{Limits}
use Rattle.base.specs.Tests.{Test, test}

-- n points of s numerators each, one after the other in a list
abbrev pub points_of : ℕ → ℕ → List ℕ → List (List ℕ)
points_of s n numerators = map (λ i. take s (drop (i * s) numerators)) (range_with_len 0 n)

-- the number of a point's cell in a split: the cell's numbers, in mixed radix with q^d for a count d, after acc
abbrev pub cell_of : ℕ → ℕ → ℕ → List ℕ → List ℕ → ℕ
cell_of q M acc [] point = acc
cell_of q M acc (d ∷ ds) point = cell_of q M (acc * q ^ d + slice_index point 0 / q ^ (M - d)) ds (drop 1 point)

-- m is at most M, and q^m at most 4,096
abbrev pub InReach : ℕ → ℕ → ℕ → Type 0
InReach q M m = (m ≤ M) × (q ^ m ≤ 4096)

-- the tests of a block: m; the lengths of points and counters, which depend on m; each numerator
abbrev pub block_tests : ℕ → ℕ → ℕ → ℕ → List ℕ → ℕ → List Test
block_tests q M s m points counters =
    test (InReach q M m → ⊥) (refusal 8 4 255 0)
    ∷ test ((length points ≡ q ^ m * s) × (q ^ m ≤ counters) → ⊥) (refusal 3 4 255 0) ∷ digit_tests (q ^ M) 4 points

-- the tests of the check: q, M and s; then those of the block
abbrev pub check_tests : ℕ → ℕ → ℕ → ℕ → List ℕ → ℕ → List Test
check_tests q M s m points counters = test (Limits q M s → ⊥) (refusal 2 4 255 0) ∷ block_tests q M s m points counters

-- the first n counters are 0, and the rest are as they were
abbrev pub Cleared : ℕ → List ℕ → List ℕ → Type 0
Cleared n before after = (take n after ≡ replicate n 0) × (drop n after ≡ drop n before)
