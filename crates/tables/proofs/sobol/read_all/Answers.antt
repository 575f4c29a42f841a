use Rattle.std.proofs.Common.{◌/◌, ◌∙◌, rules}
use Rattle.std.proofs.lemmas.Result.{err_from_is_err_and}
use Rattle.tables.proofs.Reading.{read_all, read_more, refused_layout, refused_record}
use Rattle.tables.proofs.sobol.read_all.Goals as goal

pub returns-in_err-record : goal.returns-in_err-record
returns-in_err-record c =
    let p = err_from_is_err_and c.from_residual.result c.from_residual.ensures.1 in
    let l = c.loop-record in
    rw (p.1, p.2)
    (refused_layout c.args.reader.list.now l.reader.list.now (l.reader.place / 20) l.reader.place
    c.next.new.self.place l.numbers l.invariant.0 l.invariant.1 c.in_err-record.field-0.0
    c.in_err-record.ensures.answer)

pub returns-in_err-numbers : goal.returns-in_err-numbers
returns-in_err-numbers c =
    let p = err_from_is_err_and c.from_residual-in_err-numbers.result c.from_residual-in_err-numbers.ensures.1 in
    let l = c.loop-record in
    rw (p.1, p.2)
    (refused_record c.args.reader.list.now l.reader.list.now (l.reader.place / 20) l.reader.place
    c.next.new.self.place l.numbers l.invariant.0 l.invariant.1 c.in_ok-record.field-0
    c.in-Some.«record» c.in-Some.is c.in_ok-record.ensures.answer _ c.in_err-numbers.ensures)

pub loop-record-preserved : goal.loop-record-preserved
loop-record-preserved c =
    let l = c.loop-record in
    let numbers = c.in_ok-numbers.ensures in (
      c.in_ok-record.ensures.same ∙ l.invariant.0,
      read_more c.args.reader.list.now l.reader.list.now (l.reader.place / 20) l.reader.place
          c.next.new.self.place l.numbers l.invariant.0 l.invariant.1 c.in_ok-record.field-0
          c.in-Some.«record» c.in-Some.is c.in_ok-record.ensures.answer c.in_ok-numbers.field-0 numbers.0 numbers.1,
    )

pub returns : goal.returns
returns c =
    let l = c.loop-record in
    read_all c.args.reader.list.now l.reader.list.now (l.reader.place / 20) l.reader.place
    c.next.new.self.place l.numbers l.invariant.0 l.invariant.1 c.in_ok-record.field-0
    (search rules) (search rules) c.in_default.not-Some c.in_ok-record.ensures.answer
