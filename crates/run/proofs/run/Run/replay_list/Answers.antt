use Rattle.std.proofs.Common.{◌≢◌, ◌++◌, length, inr}
use Rattle.std.proofs.lemmas.Result.{err_from_is_err_and}
use Rattle.base.proofs.Testing.{refused_left}
use Rattle.base.specs.Faults.{refusal, stated}
use Rattle.base.specs.Tables.{TableModel}
use Rattle.base.specs.Tests.{test}
use Rattle.tables.specs.Sobol.{sobol_table, sobol_tests}
use Rattle.tables.specs.Table.{model}
use Rattle.run.specs.Replays.{Replayed, log_of}
use Rattle.run.specs.Runs.{open_tests}
use Rattle.run.specs.Setups.{parts_of}
use Rattle.run.proofs.Standing.{gives_with, gives_without, start_gives}
use Rattle.run.proofs.run.Run.replay_list.Goals as goal

pub returns-in_err-table-clause-answer : goal.returns-in_err-table-clause-answer
returns-in_err-table-clause-answer g c =
    let P = parts_of g.F.Field g.O.Order g.S.Scrambler c.args.self.now.setup in
    let list = c.args.list.now in
    let p = err_from_is_err_and c.from_residual.result c.from_residual.ensures.1 in
    rw (p.1, p.2) (inr (
      (λ other. other c.if-log-calls.false),
      refused_left (sobol_tests list c.args.digits) (open_tests P (sobol_table list c.args.digits)) (stated c.in_err-table.field-0.0) c.in_err-table.ensures,
    ))

pub returns-clause-answer : goal.returns-clause-answer
returns-clause-answer g c =
    let P = parts_of g.F.Field g.O.Order g.S.Scrambler c.args.self.now.setup in
    let list = c.args.list.now in
    let T = model c.in_ok-table.table in
    let r = c.replay.result in
    let built = c.in_ok-table.ensures in
    let size = test (length c.args.log.now ≢ length c.args.calls.now) (refusal 3 3 255 0) in
    let sized : size.found → ⊥ = λ other. other c.if-log-calls.false in
    let Q = λ (U : TableModel). Replayed P U (log_of c.args.calls.now c.replay.new.log) c.replay.new.self.state in
    gives_with size (sobol_tests list c.args.digits ++ open_tests P (sobol_table list c.args.digits)) r _ sized
    (start_gives P list c.args.digits T r Q built.0 built.1 (gives_without size (open_tests P T) r (λ _. Q T) sized c.replay.ensures.answer))
