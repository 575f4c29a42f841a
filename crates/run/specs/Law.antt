-- The law over every list of calls. Assumes nothing.
use Rattle.std.specs.Prelude.{◌≡◌, ℕ, ◌+◌, ◌*◌, ◌/◌, ◌^◌, ◌<◌, ◌≤◌, ◌⊎◌, List, [], ◌∷◌, map, length}
use Rattle.std.specs.List.{range_with_len}
use Rattle.base.specs.Blocks.{BlockWithin}
use Rattle.base.specs.Nets.{Least, Net}
use Rattle.base.specs.Tables.{SameTable, TableModel}
use Rattle.base.specs.Tests.{Clean}
use Rattle.tables.specs.Faure.{faure_table, faure_tests}
use Rattle.tables.specs.Sobol.{sobol_table, sobol_tests}
use Rattle.run.specs.Runs.{Answer, Answers, Parts, View, least, opened, point_of, pointed, stepped}
use Rattle.run.specs.declared.replay.Call.{Call}
use Rattle.run.specs.declared.replay.Call.TheVariants.{Step, At, Verdict}

-- calls with their answers, in order
abbrev pub Log : Type 0
Log = List (Call × Answer)

-- a history: each call is answered by the relation, from the view that the one before it left
abbrev pub History : Parts → View → Log → View → Type 0
History P v [] w = v ≡ w
History P v (e ∷ h) w = (u : View) × Answers P v e.0 e.1 u × History P u h w

-- an accepted step hands out the position that stood before it, an accepted at the stated one, each with the numerators written
abbrev pub HandsOut : Call × Answer → ℕ → List ℕ → Type 0
HandsOut e n xs =
    ((room changed : ℕ) × ((e.0 ≡ Step room) × (e.1 ≡ stepped n changed xs))) ⊎ ((room : ℕ) × ((e.0 ≡ At n room) × (e.1 ≡ pointed xs)))

-- some call of a log hands out the position n with the point xs
abbrev pub HandedOut : Log → ℕ → List ℕ → Type 0
HandedOut [] n xs = ⊥
HandedOut (e ∷ h) n xs = HandsOut e n xs ⊎ HandedOut h n xs

-- some verdict for m in a log has the answer a
abbrev pub Answered : Log → ℕ → Answer → Type 0
Answered [] m a = ⊥
Answered (e ∷ h) m a = ((e.0 ≡ Verdict m) × (e.1 ≡ a)) ⊎ Answered h m a

-- the law, of a log of calls of a run with these parts, after the table was opened
pub record Law (P : Parts) (T : TableModel) (h : Log) : Type 0 where
  -- each point handed out is the point of the definition
  pub points : (n : ℕ) (xs : List ℕ) → HandedOut h n xs → xs ≡ point_of P T n
  -- take q^m positions in a row from a multiple of q^m on, each handed out, and for each of them the point that one of those calls
  -- wrote: for each verdict t on m in the log, these points form a (t, m, s)-net, and for no smaller t
  pub blocks : (m b : ℕ) → BlockWithin T m b → (chosen : ℕ → List ℕ)
      → ((r : ℕ) → r < T.q ^ m → HandedOut h (b * T.q ^ m + r) (chosen r))
      → (t : ℕ) → Answered h m (least t)
      → Least (λ u. Net T.q T.digits T.coordinates u m (map chosen (range_with_len 0 (T.q ^ m)))) t
  -- over a Faure table built with the run's field every verdict is 0
  pub faure : Clean (faure_tests P.field T.digits T.coordinates) → SameTable T (faure_table P.field T.digits T.coordinates)
      → (m t : ℕ) → Answered h m (least t) → t ≡ 0
  -- over the Sobol' table of an accepted list of one record every verdict is 0
  pub sobol : (list : List ℕ) → Clean (sobol_tests list T.digits) → length list / 20 ≡ 1 → SameTable T (sobol_table list T.digits)
      → (m t : ℕ) → Answered h m (least t) → t ≡ 0
  -- a verdict for m from 0 to M is never refused
  pub verdicts : (m : ℕ) → m ≤ T.digits → (a : Answer) → Answered h m a → (t : ℕ) × (a ≡ least t)

-- the law holds of every history that begins with the table opened, at position 0
abbrev pub LawOfHistories : Parts → TableModel → Type 0
LawOfHistories P T = (h : Log) (w : View) → History P (opened T 0) h w → Law P T h
