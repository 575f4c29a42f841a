-- What the reader of direction lists answers. Assumes nothing.
use Rattle.std.specs.Prelude.{◌≡◌, ℕ, ◌+◌, ◌/◌, ◌%◌, ◌<◌, ◌≤◌, List, [], ◌∷◌, length, take, drop, Some, None, Ok, Err, Option, Result}
use Rattle.base.specs.declared.faults.Fault.{Fault}
use Rattle.base.specs.Faults.{stated, refusal}
use Rattle.base.specs.Tests.{Test, test}
use Rattle.tables.specs.declared.record.Record.{Record}
use Rattle.tables.specs.Record.{Layout}

-- a list holds at least one record, and only whole ones
abbrev pub Whole : List ℕ → Type 0
Whole list = (0 < length list) × (length list % 20 ≡ 0)

-- the tests of a list before any record is read: whole records, at most eight of them
abbrev pub list_tests : List ℕ → List Test
list_tests list = test (Whole list → ⊥) (refusal 3 1 255 0) ∷ test (160 < length list) (refusal 2 1 255 0) ∷ []

-- the record whose first byte stands at a place
abbrev pub record_at : List ℕ → ℕ → List ℕ
record_at list at = take 20 (drop at list)

-- a whole record, and one of the first eight, stands at a place
abbrev pub Stands : List ℕ → ℕ → Type 0
Stands list at = (at < 160) × (at + 20 ≤ length list)

-- what `next` answers at a place, and the place after it: none where no record stands; the record there, with its
-- coordinate and its place, if it keeps the layout; else a refusal, and the place stays
abbrev pub Next : List ℕ → ℕ → Result (Option Record) Fault → ℕ → Type 0
Next list at (Ok None) after = (Stands list at → ⊥) × (after ≡ at)
Next list at (Ok (Some r)) after =
    Stands list at × Layout (record_at list at) × (r.bytes.now ≡ record_at list at) × (r.coordinate ≡ at / 20) × (r.place ≡ at)
    × (after ≡ at + 20)
Next list at (Err f) after =
    Stands list at × (Layout (record_at list at) → ⊥) × (stated f ≡ refusal 4 1 (at / 20) at) × (after ≡ at)
