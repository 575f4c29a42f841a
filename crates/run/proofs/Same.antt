-- Two runs with the same setup and the same state are the same run. Assumes nothing.
use Rattle.std.proofs.Common.{◌≡◌, Some, Ok, Err, Result, sym, ap, ◌∙◌}
use Rattle.std.specs.Result.{OnErr}
use Rattle.base.specs.declared.faults.Fault.{Fault}
use Rattle.run.specs.declared.opened.Open.{Open}
use Rattle.std.proofs.Props.{props}
use std.HLevel.{prop→path_p}
use Rattle.fields.specs.declared.field.Field as field
use Rattle.orders.specs.declared.order.Order as order
use Rattle.scramblers.specs.declared.scrambler.Scrambler as scrambler
use Rattle.run.specs.Runs.{parts}
use Rattle.run.specs.States.{Consistent}
use Rattle.run.specs.declared.run.Run.{Run}

pub same_run : {F O S : Type 0} {f : field.Ghosts F} {o : order.Ghosts O} {t : scrambler.Ghosts S} (r u : Run F O S f o t)
    → r.setup ≡ u.setup → r.state ≡ u.state → r ≡ u
same_run {f} {o} {t} r u p q = λ k.
    record {
      setup = p k;
      state = q k;
      consistent = prop→path_p (λ k. Consistent (parts (f.means (p k).field) (o.means (p k).order) (t.means (p k).scrambler)) (q k))
          (hlevel props) r.consistent u.consistent k;
    }

-- a refused call that left the open run as it was left the run as it was
pub same_if_refused : {X F O S : Type 0} {f : field.Ghosts F} {o : order.Ghosts O} {t : scrambler.Ghosts S} (r : Result X Fault)
    (u v : Run F O S f o t) (a b : Open) → u.setup ≡ v.setup → u.state ≡ Some b → v.state ≡ Some a → OnErr r (b ≡ a) → OnErr r (u ≡ v)
same_if_refused (Ok x) u v a b setup now before same = tt
same_if_refused (Err e) u v a b setup now before same = same_run u v setup (now ∙ ap Some same ∙ sym before)
