-- Runs: what one means, what a call is refused for, and what it answers. Assumes nothing.
use Rattle.std.specs.Prelude.{◌≡◌, ℕ, ◌+◌, ◌^◌, ◌<◌, ◌≤◌, cond, List, [], ◌∷◌, ◌≢◌, nat_lt}
use Rattle.base.specs.Faults.{Refusal, refusal}
use Rattle.base.specs.Fields.{FieldModel}
use Rattle.base.specs.Independence.{FirstPassing}
use Rattle.base.specs.Orders.{OrderModel}
use Rattle.base.specs.Points.{point}
use Rattle.base.specs.Scramblers.{ScramblerModel}
use Rattle.base.specs.Tables.{TableModel}
use Rattle.base.specs.Tests.{Clean, Refused, Test, test}
use Rattle.run.specs.Present.{changed_digits}
use Rattle.run.specs.declared.replay.Call.{Call}
use Rattle.run.specs.declared.replay.Call.TheVariants.{Step, Jump, At, Verdict}

-- what the parts of a run mean: its field, its order and its scrambler
pub record Parts : Type 0 where
  pub field : FieldModel
  pub order : OrderModel
  pub scrambler : ScramblerModel

abbrev pub parts : FieldModel → OrderModel → ScramblerModel → Parts
parts F O S = record { field = F; order = O; scrambler = S }

-- the parts agree with a table in q, M and s
pub record Agree (P : Parts) (T : TableModel) : Type 0 where
  pub field_q : P.field.q ≡ T.q
  pub order_q : P.order.q ≡ T.q
  pub order_digits : P.order.digits ≡ T.digits
  pub scrambler_q : P.scrambler.q ≡ T.q
  pub scrambler_digits : P.scrambler.digits ≡ T.digits
  pub scrambler_coordinates : P.scrambler.coordinates ≡ T.coordinates

-- what a run means: nothing, or the table that was opened, and the position
pub data View : Type 0 where
  empty : View
  opened : TableModel → ℕ → View

-- the point of a position, by the point formula
abbrev pub point_of : Parts → TableModel → ℕ → List ℕ
point_of P T n = point P.field P.order P.scrambler T n

-- in how many digits the index of the next position differs from that of this one; 0 at the last position
abbrev pub changes_after : Parts → TableModel → ℕ → ℕ
changes_after P T n =
    cond (nat_lt (n + 1) (T.q ^ T.digits)) (changed_digits T.q T.digits (P.order.index n) (P.order.index (n + 1))) 0

-- the refusals of each call, in their order: of any call of an empty run; a buffer of other length than s; a position or an m
-- out of range; a step when every position has been handed out
abbrev pub call_tests : View → Call → List Test
call_tests empty c = test (Unit {0}) (refusal 20 3 255 0) ∷ []
call_tests (opened T p) (Step room) = test (room ≢ T.coordinates) (refusal 3 3 255 0) ∷ test (T.q ^ T.digits ≤ p) (refusal 21 3 255 0) ∷ []
call_tests (opened T p) (Jump n) = test (T.q ^ T.digits ≤ n) (refusal 8 3 255 0) ∷ []
call_tests (opened T p) (At n room) = test (room ≢ T.coordinates) (refusal 3 3 255 0) ∷ test (T.q ^ T.digits ≤ n) (refusal 8 3 255 0) ∷ []
call_tests (opened T p) (Verdict m) = test (T.digits < m) (refusal 8 3 255 0) ∷ []

-- the refusal of an open: q, M or s differ between the parts and the table
abbrev pub open_tests : Parts → TableModel → List Test
open_tests P T = test (Agree P T → ⊥) (refusal 9 3 255 0) ∷ []

-- what a call answers: a step the position that it hands out, the number of index digits that change, and what it writes; a jump
-- nothing; an at what it writes; a verdict a number; a refused call its refusal
pub data Answer : Type 0 where
  stepped : ℕ → ℕ → List ℕ → Answer
  jumped : Answer
  pointed : List ℕ → Answer
  least : ℕ → Answer
  refused : Refusal → Answer

-- the one relation of the calls: what a run that means the first view may answer to a call, and what it means afterwards
pub data Answers (P : Parts) : View → Call → Answer → View → Type 0 where
  -- a step hands out its position and moves one on
  step_accepted : (T : TableModel) (p room : ℕ) → Clean (call_tests (opened T p) (Step room))
      → Answers P (opened T p) (Step room) (stepped p (changes_after P T p) (point_of P T p)) (opened T (p + 1))
  -- a jump sets the position
  jump_accepted : (T : TableModel) (p n : ℕ) → Clean (call_tests (opened T p) (Jump n)) → Answers P (opened T p) (Jump n) jumped (opened T n)
  -- an at writes the point of the stated position and moves nothing
  at_accepted : (T : TableModel) (p n room : ℕ) → Clean (call_tests (opened T p) (At n room))
      → Answers P (opened T p) (At n room) (pointed (point_of P T n)) (opened T p)
  -- a verdict answers the first t whose splits all pass, and moves nothing
  verdict_accepted : (T : TableModel) (p m t : ℕ) → Clean (call_tests (opened T p) (Verdict m)) → FirstPassing P.field T m t
      → Answers P (opened T p) (Verdict m) (least t) (opened T p)
  -- a refused call leaves all as it was
  call_refused : (v : View) (c : Call) (r : Refusal) → Refused (call_tests v c) r → Answers P v c (refused r) v
