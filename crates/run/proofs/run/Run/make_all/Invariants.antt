use Rattle.std.proofs.Common.{◌≡◌, length, take}
use Rattle.run.specs.Law.{History}
use Rattle.run.specs.Replays.{log_of}
use Rattle.run.specs.Runs.{parts}
use Rattle.run.specs.States.{view}
use Rattle.run.proofs.run.Run.make_all.Given as goal

-- the calls so far and their replies are a history, from the run as it stood to the run as it stands
abbrev pub invariant-loop-i : goal.invariant-loop-i
invariant-loop-i g l =
    record {
      size : length l.log ≡ length l.calls;
      same : l.self.setup ≡ l.initial.self.setup;
      history : History (parts (g.F.Field.means l.initial.self.setup.field) (g.O.Order.means l.initial.self.setup.order) (g.S.Scrambler.means l.initial.self.setup.scrambler))
          (view l.initial.self.state) (log_of (take l.i l.calls) (take l.i l.log)) (view l.self.state);
    }
