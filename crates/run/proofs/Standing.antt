-- What an empty run answers, what a verdict says, and the law where a table was opened. Assumes nothing.
use Rattle.std.proofs.Common.{◌≡◌, ℕ, List, ◌∷◌, ◌++◌, Some, None, Ok, Err, Option, Result, sym, ◌∙◌, subst, ap₂, inl, inr, ⊎_elim}
use Rattle.base.proofs.Testing.{clean_append, refused_right}
use Rattle.base.specs.Blocks.{Fit}
use Rattle.base.specs.Faults.{refusal, stated}
use Rattle.base.specs.Fields.{FieldLaws}
use Rattle.base.specs.Independence.{FirstPassing}
use Rattle.base.specs.Orders.{OrderLaws}
use Rattle.base.specs.Scramblers.{ScramblerLaws}
use Rattle.base.specs.Tables.{SameTable, TableModel}
use Rattle.base.specs.Tests.{Clean, Gives, Refused, Test}
use Rattle.base.specs.declared.faults.Fault.{Fault}
use Rattle.tables.specs.Sobol.{sobol_table, sobol_tests}
use Rattle.tables.specs.Table.{model}
use Rattle.tables.specs.declared.table.Table.{Table}
use Rattle.verdict.specs.Search.{search_tests}
use Rattle.run.specs.Runs.{Agree, Answers, Parts, call_refused, call_tests, open_tests, verdict_accepted}
use Rattle.run.specs.States.{Opens, verdict_answer, view, view_of}
use Rattle.run.specs.declared.opened.Open.{Open}
use Rattle.run.specs.declared.replay.Call.{Call}
use Rattle.run.specs.declared.replay.Call.TheVariants.{Verdict}
use Rattle.run.proofs.Histories.{law_of_histories}
use Rattle.verdict.proofs.SplitAnswers.{table_over}

-- an empty run refuses every call
pub empty_refuses : (state : Option Open) (call : Call) (f : Fault) → state ≡ None → stated f ≡ refusal 20 3 255 0
    → Refused (call_tests (view state) call) (stated f)
empty_refuses state call f none is = subst (λ s. Refused (call_tests (view s) call) (stated f)) (sym none) (inl (tt, is))

-- the search for t answers as a verdict: what it is refused for, and what it says
pub verdict_told : (P : Parts) (o : Open) (m : ℕ) (r : Result ℕ Fault) → Agree P (model o.table)
    → Gives (search_tests P.field (model o.table) m) r (FirstPassing P.field (model o.table) m)
    → Gives (call_tests (view_of o) (Verdict m)) r (FirstPassing P.field (model o.table) m)
verdict_told P o m (Ok t) agree told = ((told.0.0, tt), told.1)
verdict_told P o m (Err f) agree told =
    ⊎_elim (λ past. inl past) (λ later. ⊎_elim (λ other. absurd (other.0 agree.field_q)) (λ none. absurd none.1) later.1) told

pub verdict_answers : (P : Parts) (o : Open) (m : ℕ) (r : Result ℕ Fault)
    → Gives (call_tests (view_of o) (Verdict m)) r (FirstPassing P.field (model o.table) m)
    → Answers P (view_of o) (Verdict m) (verdict_answer r) (view_of o)
verdict_answers P o m (Ok t) told = verdict_accepted (model o.table) o.position m t told.0 told.1
verdict_answers P o m (Err f) told = call_refused (view_of o) (Verdict m) (stated f) told

-- what a call is given without what it says
pub given_only : {X : Type 0} (tests : List Test) (r : Result X Fault) (Q : X → Type 0) → Gives tests r Q → Gives tests r (λ x. Unit {0})
given_only tests (Ok x) Q told = (told.0, tt)
given_only tests (Err f) Q told = told

-- the parts fit the table that was opened
pub opened_fit : (P : Parts) (T : TableModel) → Agree P T → OrderLaws P.order → ScramblerLaws P.scrambler → Fit P.order P.scrambler T
opened_fit P T agree ordering scrambling =
    record {
      order = ordering;
      order_q = agree.order_q;
      order_digits = agree.order_digits;
      scrambler = scrambling;
      scrambler_q = agree.scrambler_q;
      scrambler_digits = agree.scrambler_digits;
      scrambler_coordinates = agree.scrambler_coordinates;
    }

pub opens_table : (P : Parts) (t : Table) (o : Open) → FieldLaws P.field → OrderLaws P.order → ScramblerLaws P.scrambler
    → Agree P (model t) → o.table ≡ t → o.position ≡ 0 → Opens P (model t) (Some o)
opens_table P t o laws ordering scrambling agree is start =
    record {
      means = ap₂ (λ t p. Rattle.run.specs.Runs.opened (model t) p) is start;
      law = law_of_histories P (model t) (table_over P.field laws t agree.field_q) (opened_fit P (model t) agree ordering scrambling);
    }

-- ---- a direction list

-- parts that agree with a table agree with another of the same q, M and s
pub agree_same : (P : Parts) (a b : TableModel) → SameTable a b → Agree P a → Agree P b
agree_same P a b same agree =
    record {
      field_q = agree.field_q ∙ same.q;
      order_q = agree.order_q ∙ same.q;
      order_digits = agree.order_digits ∙ same.digits;
      scrambler_q = agree.scrambler_q ∙ same.q;
      scrambler_digits = agree.scrambler_digits ∙ same.digits;
      scrambler_coordinates = agree.scrambler_coordinates ∙ same.coordinates;
    }

pub agree_back : (P : Parts) (a b : TableModel) → SameTable a b → Agree P b → Agree P a
agree_back P a b same agree =
    record {
      field_q = agree.field_q ∙ sym same.q;
      order_q = agree.order_q ∙ sym same.q;
      order_digits = agree.order_digits ∙ sym same.digits;
      scrambler_q = agree.scrambler_q ∙ sym same.q;
      scrambler_digits = agree.scrambler_digits ∙ sym same.digits;
      scrambler_coordinates = agree.scrambler_coordinates ∙ sym same.coordinates;
    }

-- what is opened after the table of a list was built
pub start_gives : (P : Parts) (list : List ℕ) (M : ℕ) (T : TableModel) (r : Result (Unit {0}) Fault) (Q : TableModel → Type 0)
    → Clean (sobol_tests list M) → SameTable T (sobol_table list M) → Gives (open_tests P T) r (λ _. Q T)
    → Gives (sobol_tests list M ++ open_tests P (sobol_table list M)) r (λ _. (U : TableModel) × SameTable U (sobol_table list M) × Q U)
start_gives P list M T (Ok x) Q clean same told = (
  clean_append (sobol_tests list M) (open_tests P (sobol_table list M)) clean
      ((λ other. told.0.0 (λ agree. other (agree_same P T (sobol_table list M) same agree))), tt),
  (T, same, told.1),
)
start_gives P list M T (Err f) Q clean same told =
    refused_right (sobol_tests list M) (open_tests P (sobol_table list M)) (stated f) clean
    (⊎_elim (λ other. inl ((λ agree. other.0 (agree_back P T (sobol_table list M) same agree)), other.1)) (λ none. absurd none.1) told)

-- ---- a test that finds nothing

-- it may be left out
pub gives_without : {X : Type 0} (t : Test) (ts : List Test) (r : Result X Fault) (Q : X → Type 0) → (t.found → ⊥) → Gives (t ∷ ts) r Q → Gives ts r Q
gives_without t ts (Ok x) Q none told = (told.0.1, told.1)
gives_without t ts (Err f) Q none told = ⊎_elim (λ bad. absurd (none bad.0)) (λ later. later.1) told

-- and it may be put first
pub gives_with : {X : Type 0} (t : Test) (ts : List Test) (r : Result X Fault) (Q : X → Type 0) → (t.found → ⊥) → Gives ts r Q → Gives (t ∷ ts) r Q
gives_with t ts (Ok x) Q none told = ((none, told.0), told.1)
gives_with t ts (Err f) Q none told = inr (none, told)
