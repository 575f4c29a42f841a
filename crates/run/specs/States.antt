-- What the state of a run means, when it is consistent, and what the results of its calls say. Assumes nothing.
use Rattle.std.specs.Prelude.{◌≡◌, ℕ, ◌^◌, ◌<◌, List, Some, None, Ok, Err, Option, Result}
use Rattle.base.specs.Faults.{stated}
use Rattle.base.specs.Orders.{digit}
use Rattle.base.specs.Tables.{TableModel}
use Rattle.base.specs.declared.faults.Fault.{Fault}
use Rattle.tables.specs.Table.{model}
use Rattle.run.specs.Law.{LawOfHistories}
use Rattle.run.specs.Present.{Present}
use Rattle.run.specs.Runs.{Agree, Answer, Parts, View, empty, jumped, least, opened, pointed, refused, stepped}
use Rattle.run.specs.declared.opened.Open.{Open}

-- what an open run means: its table, and its position
abbrev pub view_of : Open → View
view_of o = opened (model o.table) o.position

-- what the state of a run means
abbrev pub view : Option Open → View
view None = empty
view (Some o) = view_of o

-- an open run shows its position, with the parts of the run: they agree with the table in q, M and s, and the coordinates show the
-- rows at the index of the position, unless every position has been handed out
pub record Shows (P : Parts) (o : Open) : Type 0 where
  pub agree : Agree P (model o.table)
  pub present : o.position < (model o.table).q ^ (model o.table).digits
      → Present P.field (model o.table) (digit (model o.table).q (P.order.index o.position)) o.coordinates

-- a state is consistent with the parts of its run: where a table is open, it shows its position
abbrev pub Consistent : Parts → Option Open → Type 0
Consistent P state = (o : Open) → state ≡ Some o → Shows P o

-- a table was opened: the run means it at position 0, and the law holds of every history from there
pub record Opens (P : Parts) (T : TableModel) (state : Option Open) : Type 0 where
  pub means : view state ≡ opened T 0
  pub law : LawOfHistories P T

-- what the result of a step says, with what the buffer holds afterwards
abbrev pub step_answer : Result (ℕ × ℕ) Fault → List ℕ → Answer
step_answer (Ok x) out = stepped x.0 x.1 out
step_answer (Err f) out = refused (stated f)

-- what the result of a jump says
abbrev pub jump_answer : Result (Unit {0}) Fault → Answer
jump_answer (Ok x) = jumped
jump_answer (Err f) = refused (stated f)

-- what the result of an at says, with what the buffer holds afterwards
abbrev pub at_answer : Result (Unit {0}) Fault → List ℕ → Answer
at_answer (Ok x) out = pointed out
at_answer (Err f) out = refused (stated f)

-- what the result of a verdict says
abbrev pub verdict_answer : Result ℕ Fault → Answer
verdict_answer (Ok t) = least t
verdict_answer (Err f) = refused (stated f)
