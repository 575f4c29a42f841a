-- A list of calls that is made, and its log. Assumes nothing.
use Rattle.std.specs.Prelude.{ℕ, List, [], ◌∷◌, ◌++◌, take, Ok, Err, Option, Result, ◌≢◌}
use Rattle.base.specs.Faults.{refusal, stated}
use Rattle.base.specs.Tables.{TableModel}
use Rattle.base.specs.declared.faults.Fault.{Fault}
use Rattle.base.specs.Tests.{Test, test}
use Rattle.tables.specs.Sobol.{sobol_table, sobol_tests}
use Rattle.run.specs.Law.{History, Law, LawOfHistories, Log}
use Rattle.run.specs.Runs.{Answer, Parts, jumped, least, open_tests, opened, pointed, refused, stepped}
use Rattle.run.specs.States.{view}
use Rattle.run.specs.declared.opened.Open.{Open}
use Rattle.run.specs.declared.replay.Call.{Call}
use Rattle.run.specs.declared.replay.Point.{Point}
use Rattle.run.specs.declared.replay.Outcome.{Outcome}
use Rattle.run.specs.declared.replay.Outcome.TheVariants.{Stepped, Jumped, Pointed, Least}

-- the numerators of a point
abbrev pub numerators_of : Point → List ℕ
numerators_of x = take x.coordinates x.numerators

-- a reply, since antt has no name for an alias
abbrev pub Reply : Type 0
Reply = Result Outcome Fault

-- what a reply says
abbrev pub answer_of : Reply → Answer
answer_of (Ok (Stepped position changed point)) = stepped position changed (numerators_of point)
answer_of (Ok Jumped) = jumped
answer_of (Ok (Pointed point)) = pointed (numerators_of point)
answer_of (Ok (Least t)) = least t
answer_of (Err fault) = refused (stated fault)

-- calls beside the replies to them
abbrev pub log_of : List Call → List Reply → Log
log_of [] replies = []
log_of (c ∷ cs) [] = []
log_of (c ∷ cs) (r ∷ rs) = (c, answer_of r) ∷ log_of cs rs

-- the tests of a replay: the log has a place for each call; then those of the open
abbrev pub replay_tests : Parts → TableModel → ℕ → ℕ → List Test
replay_tests P T calls places = test (places ≢ calls) (refusal 3 3 255 0) ∷ open_tests P T

-- the tests of a replay from a direction list: the log has a place for each call; then those of the start
abbrev pub replay_list_tests : Parts → List ℕ → ℕ → ℕ → ℕ → List Test
replay_list_tests P list M calls places =
    test (places ≢ calls) (refusal 3 3 255 0) ∷ (sobol_tests list M ++ open_tests P (sobol_table list M))

-- a list of calls was made after a table was opened: the law holds of the log, and the log is a history that ends where the run
-- stands; and the law holds of every history from the open, so of the log with all calls that come after it
pub record Replayed (P : Parts) (T : TableModel) (h : Log) (state : Option Open) : Type 0 where
  pub law : Law P T h
  pub history : History P (opened T 0) h (view state)
  pub later : LawOfHistories P T
