use Rattle.std.proofs.Common.{get_or, ◌∙◌, subst}
use Rattle.std.proofs.lemmas.List.{length-set}
use Rattle.run.specs.Replays.{answer_of}
use Rattle.run.specs.Runs.{Answers, parts}
use Rattle.run.specs.States.{view}
use Rattle.run.specs.declared.replay.Call.TheVariants.{Step}
use Rattle.run.proofs.Logging.{log_more}
use Rattle.run.proofs.run.Run.make_all.Goals as goal

pub loop-i-preserved : goal.loop-i-preserved
loop-i-preserved g c =
    let x = c.args.self.now in
    let y = c.loop-i.self in
    let z = c.make.new.self in
    let P = parts (g.F.Field.means x.setup.field) (g.O.Order.means x.setup.order) (g.S.Scrambler.means x.setup.scrambler) in
    let calls = c.args.calls.now in
    let log = c.loop-i.log in
    let i = c.loop-i.i in
    let inv = c.loop-i.invariant in
    let call = get_or calls i (Step 0) in
    let made : Answers P (view y.state) call (answer_of c.make.result) (view z.state) =
    subst
    (λ s. Answers (parts (g.F.Field.means s.field) (g.O.Order.means s.order) (g.S.Scrambler.means s.scrambler)) (view y.state) call (answer_of c.make.result) (view z.state))
    inv.same c.make.ensures.answer in
    record {
      size = length-set log i c.make.result ∙ inv.size;
      same = c.make.ensures.same ∙ inv.same;
      history = log_more P (view x.state) (view y.state) (view z.state) calls log i c.make.result c.loop-i-test.true inv.size inv.history made;
    }
