-- Coordinate, row and column counted through, as the bytes of a raw table are: the place is below their product.
-- Assumes nothing.
use Rattle.std.proofs.Common.{ℕ, ◌+◌, ◌-◌, ◌*◌, ◌<◌, sym, ◌∙◌, subst, mul_assoc, mul_comm, arith}
use Rattle.std.proofs.lemmas.Nat.{mul-add-lt}
use Rattle.base.specs.Tables.{Inside}

pub cube_place_below : (M s j k l : ℕ) → Inside M s j k l → (j * M + (k - 1)) * M + l < s * (M * M)
cube_place_below M s j k l inside =
    let row : k - 1 < M = omega arith in
    subst (λ n. (j * M + (k - 1)) * M + l < n) (sym (mul_assoc M M s) ∙ mul_comm (M * M) s)
    (mul-add-lt (j * M + (k - 1)) M l (M * s) (mul-add-lt j M (k - 1) s inside.coordinate row) inside.column)
