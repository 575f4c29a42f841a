-- The part that the code cuts out, `take (place + 20 - place)`, is the record at the place.
use Rattle.std.proofs.Common.{◌≡◌, ◌+◌, ◌-◌, take, drop, sym, refl, subst, arith, rules}
use Rattle.std.proofs.lemmas.Bool.Decides.{not_from_Decides}
use Rattle.tables.specs.Record.{Layout}
use Rattle.tables.proofs.reader.Reader.next.Goals as goal

pub returns-then-not-keeps_layout : goal.returns-then-not-keeps_layout
returns-then-not-keeps_layout c =
    let at = c.args.self.now.place in
    let e : at + 20 - at ≡ 20 = omega arith in
    record {
      same = refl;
      answer = (
        search rules,
        λ l. not_from_Decides c.keeps_layout.result c.keeps_layout.ensures c.if-not-keeps_layout.true
            (subst (λ n. Layout (take n (drop at c.args.self.now.list.now))) (sym e) l),
        c.fault.ensures,
        refl,
      );
    }
