-- The worked examples, each a fact about the definitions. Assumes nothing.
use Rattle.std.specs.Prelude.{◌≡◌, ℕ, ◌*◌, ◌^◌, ◌≤◌, List, [], ◌∷◌, ◌++◌, map, replicate}
use Rattle.std.specs.List.{range_with_len}
use Rattle.base.specs.Faults.{refusal}
use Rattle.base.specs.Fields.{FieldLaws, FieldModel}
use Rattle.base.specs.Independence.{FirstPassing}
use Rattle.base.specs.Orders.{OrderModel}
use Rattle.base.specs.Points.{point}
use Rattle.base.specs.Tests.{Refused}
use Rattle.checks.specs.Settings.{setting, travel_tests}
use Rattle.checks.specs.declared.travel.Travel.{Travel}
use Rattle.fields.specs.Bit.{bit_field}
use Rattle.fields.specs.Prime.{prime_field}
use Rattle.orders.specs.Gray.{gray_order}
use Rattle.orders.specs.Plain.{plain_order}
use Rattle.scramblers.specs.Keyed.{keyed_scrambler}
use Rattle.scramblers.specs.None.{no_scrambler}
use Rattle.tables.specs.Directions.{direction_of}
use Rattle.tables.specs.Faure.{faure_table}
use Rattle.tables.specs.Raw.{raw_table}
use Rattle.tables.specs.Sobol.{sobol_table}

-- the record of degree 3 with polynomial 11 and the numbers 1, 3, 7
abbrev pub eleven : List ℕ
eleven = 3 ∷ 0 ∷ 11 ∷ 0 ∷ 1 ∷ 0 ∷ 3 ∷ 0 ∷ 7 ∷ 0 ∷ 0 ∷ 0 ∷ 0 ∷ 0 ∷ 0 ∷ 0 ∷ 0 ∷ 0 ∷ 0 ∷ 0 ∷ []

-- the record of degree 0
abbrev pub degree_zero : List ℕ
degree_zero = 0 ∷ 0 ∷ 1 ∷ 0 ∷ replicate 16 0

-- polynomial 11 with 1, 3, 7 continues 5, 7, 43
abbrev pub Continues : Type 0
Continues = (direction_of eleven 4 ≡ 5) × (direction_of eleven 5 ≡ 7) × (direction_of eleven 6 ≡ 43)

-- the points at positions 0 to 7 of the Sobol' table of the record with polynomial 11, for M = 3, in an order, not scrambled
abbrev pub points_of_eleven : OrderModel → List (List ℕ)
points_of_eleven O = map (point bit_field O (no_scrambler 2 3 1) (sobol_table eleven 3)) (range_with_len 0 8)

-- they are 0 4 6 2 7 3 1 5 in plain order, and 0 4 2 6 1 5 3 7 in Gray order
abbrev pub SobolPoints : Type 0
SobolPoints =
    (points_of_eleven (plain_order 2 3) ≡ (0 ∷ []) ∷ (4 ∷ []) ∷ (6 ∷ []) ∷ (2 ∷ []) ∷ (7 ∷ []) ∷ (3 ∷ []) ∷ (1 ∷ []) ∷ (5 ∷ []) ∷ [])
    × (points_of_eleven (gray_order 2 3) ≡ (0 ∷ []) ∷ (4 ∷ []) ∷ (2 ∷ []) ∷ (6 ∷ []) ∷ (1 ∷ []) ∷ (5 ∷ []) ∷ (3 ∷ []) ∷ (7 ∷ []) ∷ [])

-- the verdict on m is t for the Sobol' table of a list, with M = 3
abbrev pub Verdict : List ℕ → ℕ → ℕ → Type 0
Verdict list m t = FirstPassing bit_field (sobol_table list 3) m t

-- a record of degree 0 and then that with polynomial 11: the verdict is 0, 0, 0, 1 for m = 0, 1, 2, 3
abbrev pub AfterDegreeZero : Type 0
AfterDegreeZero =
    Verdict (degree_zero ++ eleven) 0 0 × Verdict (degree_zero ++ eleven) 1 0 × Verdict (degree_zero ++ eleven) 2 0
    × Verdict (degree_zero ++ eleven) 3 1

-- the record with polynomial 11 twice: the verdict is m - 1 for m = 1, 2, 3
abbrev pub EqualRecords : Type 0
EqualRecords = Verdict (eleven ++ eleven) 1 0 × Verdict (eleven ++ eleven) 2 1 × Verdict (eleven ++ eleven) 3 2

-- a raw table of zeros, over every field, with any M and at least one coordinate: the verdict is m, for every m
abbrev pub RawZeros : Type 0
RawZeros =
    (F : FieldModel) → FieldLaws F → (M s m : ℕ) → 1 ≤ s → FirstPassing F (raw_table F.q M s (replicate (s * (M * M)) 0)) m m

-- Faure, q = 3, M = 2, s = 3: position 5 in plain order gives 7, 1, 4
abbrev pub FaurePoint : Type 0
FaurePoint =
    point (prime_field 3) (plain_order 3 2) (no_scrambler 3 2 3) (faure_table (prime_field 3) 2 3) 5 ≡ 7 ∷ 1 ∷ 4 ∷ []

-- Gray, q = 3: positions 2 to 5 have the indexes 2, 5, 3, 4
abbrev pub GrayIndexes : Type 0
GrayIndexes =
    ((gray_order 3 2).index 2 ≡ 2) × ((gray_order 3 2).index 3 ≡ 5) × ((gray_order 3 2).index 4 ≡ 3) × ((gray_order 3 2).index 5 ≡ 4)

-- keyed, key 0, coordinate 0, q = 2: the word 1 0 becomes 1 1
abbrev pub KeyedWord : Type 0
KeyedWord = (keyed_scrambler 2 2 1 0).scramble 0 (1 ∷ 0 ∷ []) ≡ 1 ∷ 1 ∷ []

-- the travel with low 10 and span 100
abbrev pub travel : Travel
travel = record { low = 10; span = 100 }

-- q^M = 8, low 10, span 100: the numerator 7 gives 97, and 8 is refused with number 7
abbrev pub Settings : Type 0
Settings = (setting (2 ^ 3) 10 100 7 ≡ 97) × Refused (travel_tests 2 3 1 (8 ∷ []) (travel ∷ []) 1) (refusal 7 5 255 0)

-- all worked examples together
abbrev pub WorkedExamples : Type 0
WorkedExamples =
    Continues × SobolPoints × AfterDegreeZero × EqualRecords × RawZeros × FaurePoint × GrayIndexes × KeyedWord × Settings
