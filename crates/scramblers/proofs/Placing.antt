-- The tests of the bytes of matrices, one after the other, and how many bytes those are. Assumes nothing.
use Rattle.std.proofs.Common.{◌≡◌, ℕ, ◌*◌, ◌<◌, ◌≤◌, List, length, get_or, sym, refl, ◌∙◌, inl, arith}
use mathlib.Core.Bool.{false≢true}
use Rattle.std.proofs.lemmas.Nat.{mul-le}
use Rattle.base.proofs.Testing.{clean_in_turn, refused_in_turn}
use Rattle.base.specs.Digits.{BeginsWith}
use Rattle.base.specs.Faults.{refusal}
use Rattle.base.specs.Shapes.{HasShape}
use Rattle.base.specs.Tests.{Clean, Refused}
use Rattle.base.specs.declared.limits.Shape.{Shape}
use Rattle.scramblers.specs.Linear.{place_test, place_tests}
use Rattle.scramblers.specs.Matrices.{AllPlaced, FirstMisplaced}

pub places_clean : (q M : ℕ) (bytes : List ℕ) → AllPlaced q M bytes → Clean (place_tests q M bytes)
places_clean q M bytes all =
    clean_in_turn (place_test q M bytes) 0 (length bytes)
    (λ i low high. (λ bad. false≢true (sym (all i (omega arith)) ∙ bad), tt))

pub places_refused : (q M : ℕ) (bytes : List ℕ) (i : ℕ) → FirstMisplaced q M bytes i
    → Refused (place_tests q M bytes) (refusal 7 6 255 i)
places_refused q M bytes i found =
    refused_in_turn (place_test q M bytes) 0 (length bytes) i (refusal 7 6 255 i) (omega arith) (omega (arith, found.within))
    (λ k low high. (λ bad. false≢true (sym (found.first k high) ∙ bad), tt)) (inl (found.bad, refl))

-- the matrices of a shape have at most 8,192 bytes
pub matrices_fit : (x : Shape) → x.coordinates * (x.digits * x.digits) ≤ 8192
matrices_fit x =
    mul-le x.coordinates (x.digits * x.digits) 8 1024 x.dimension.1 (mul-le x.digits x.digits 32 32 x.narrow x.narrow)

-- so all of them stand in an array of as many
pub matrices_stand : (x : Shape) (q M s : ℕ) (bytes array : List ℕ) → HasShape q M s x → length bytes ≡ s * (M * M)
    → ((i : ℕ) → i < 8192 → get_or array i 0 ≡ get_or bytes i 0) → BeginsWith bytes array
matrices_stand x q M s bytes array is size same i low =
    let fits : s * (M * M) ≤ 8192 = rw (is.coordinates_are, is.digits_are) at (matrices_fit x) in
    same i (omega (arith, low, size, fits))
