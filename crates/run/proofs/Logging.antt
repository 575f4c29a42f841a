-- The log of a list of calls, call by call: a history goes on with the next call's answer. After an open it is a replay.
-- Assumes nothing.
use Rattle.std.proofs.Common.{◌≡◌, ℕ, ◌+◌, ◌<◌, ◌≤◌, List, [], ◌∷◌, ◌++◌, length, get_or, take, set, Option, sym, refl, ap, ◌∙◌, subst, ap₂, arith}
use Rattle.std.proofs.lemmas.List.{length-take-le, take_all, take_more, take_more_set}
use Rattle.base.specs.Tables.{TableModel}
use Rattle.run.specs.Law.{History, Log}
use Rattle.run.specs.Replays.{Replayed, Reply, answer_of, log_of}
use Rattle.run.specs.Runs.{Answer, Answers, Parts, View}
use Rattle.run.specs.States.{Opens, view}
use Rattle.run.specs.declared.opened.Open.{Open}
use Rattle.run.specs.declared.replay.Call.{Call}
use Rattle.run.specs.declared.replay.Call.TheVariants.{Step}

-- one call more
pub history_more : (P : Parts) (v u w : View) (h : Log) (c : Call) (a : Answer) → History P v h u → Answers P u c a w
    → History P v (h ++ (c, a) ∷ []) w
history_more P v u w [] c a history answers = (w, subst (λ v. Answers P v c a w) (sym history) answers, refl)
history_more P v u w (e ∷ h) c a history answers = (history.0, history.1, history_more P history.0 u w h c a history.2 answers)

log_push : (cs : List Call) (rs : List Reply) (c : Call) (r : Reply) → length rs ≡ length cs
    → log_of (cs ++ c ∷ []) (rs ++ r ∷ []) ≡ log_of cs rs ++ (c, answer_of r) ∷ []
log_push [] [] c r same = refl
log_push [] (x ∷ rs) c r same = let no : 1 ≤ 0 = omega (arith, same) in elim no [ ]
log_push (d ∷ cs) [] c r same = let no : 1 ≤ 0 = omega (arith, same) in elim no [ ]
log_push (d ∷ cs) (x ∷ rs) c r same = ap (λ h. (d, answer_of x) ∷ h) (log_push cs rs c r (omega (arith, same)))

-- one call more of a list of calls, its reply written into the log
pub log_more : (P : Parts) (v u w : View) (calls : List Call) (log : List Reply) (i : ℕ) (r : Reply) → i < length calls → length log ≡ length calls
    → History P v (log_of (take i calls) (take i log)) u → Answers P u (get_or calls i (Step 0)) (answer_of r) w
    → History P v (log_of (take (i + 1) calls) (take (i + 1) (set log i r))) w
log_more P v u w calls log i r h same history answers =
    let room : i < length log = omega (arith, h, same) in
    subst (λ e. History P v e w)
    (sym (ap₂ log_of (take_more calls i (Step 0) h) (take_more_set log i r room)
    ∙ log_push (take i calls) (take i log) (get_or calls i (Step 0)) r
    (length-take-le i log (omega (arith, room)) ∙ sym (length-take-le i calls (omega (arith, h))))))
    (history_more P v u w (log_of (take i calls) (take i log)) (get_or calls i (Step 0)) (answer_of r) history answers)

-- all calls of the list
pub log_all : (calls : List Call) (log : List Reply) (i : ℕ) → length calls ≤ i → length log ≡ length calls
    → log_of (take i calls) (take i log) ≡ log_of calls log
log_all calls log i h same = ap₂ log_of (take_all i calls h) (take_all i log (omega (arith, h, same)))

-- after a table was opened, the calls made are a replay
pub replayed : (P : Parts) (T : TableModel) (h : Log) (before after : Option Open) → Opens P T before
    → History P (view before) h (view after) → Replayed P T h after
replayed P T h before after opens made =
    let history = subst (λ v. History P v h (view after)) opens.means made in
    record { law = opens.law h (view after) history; history = history; later = opens.law }
