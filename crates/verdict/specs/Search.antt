-- The refusals of the search for t. Assumes nothing.
use Rattle.std.specs.Prelude.{ℕ, ◌<◌, List, [], ◌∷◌, ◌≢◌}
use Rattle.base.specs.Faults.{refusal}
use Rattle.base.specs.Fields.{FieldModel}
use Rattle.base.specs.Tables.{TableModel}
use Rattle.base.specs.Tests.{Test, test}

-- the tests of the search: m is at most M, and the field has the table's q
abbrev pub search_tests : FieldModel → TableModel → ℕ → List Test
search_tests F T m = test (T.digits < m) (refusal 8 3 255 0) ∷ test (F.q ≢ T.q) (refusal 9 3 255 0) ∷ []
