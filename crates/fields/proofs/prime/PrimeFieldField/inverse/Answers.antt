use Rattle.std.proofs.Common.{◌*◌, ◌%◌, eqb, ◌∙◌, refl, sym, rules, tests}
use Rattle.std.proofs.lemmas.Bool.{cond-true, lt-ltb}
use Rattle.std.proofs.lemmas.Iterator.{YieldsList-from_range}
use Rattle.std.proofs.lemmas.Iterator.Adapters.{option_map_id}
use Rattle.std.proofs.lemmas.Iterator.Search.{find_from_yields_List}
use Rattle.fields.proofs.prime.PrimeFieldField.inverse.Goals as goal

pub returns : goal.returns
returns c =
    let q = c.args.self.now.q in
    let found = find_from_yields_List (λ b. eqb (c.args.a * b % q) 1) _ _ c.find.result c.find.ensures.ran
    (YieldsList-from_range 1 q _ refl refl) (λ x b p k. search (rules, tests)) in
    sym (option_map_id c.find.result) ∙ found ∙ sym (cond-true _ _ _ (lt-ltb c.args.a q c.if-a-self.false))
