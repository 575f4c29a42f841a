use Rattle.std.proofs.Common.{◌≡◌, ℕ, ◌+◌, ◌<◌, List, Option, Some, None, get_or, length, replicate, set, ◌∙◌, arith, below_more}
use Rattle.std.specs.Option.{SomeIff, unwrap_or}
use Rattle.std.proofs.lemmas.List.{get_or-set_other, get_or-set_same, length-take}
use Rattle.tables.specs.Table.{model}
use Rattle.verdict.proofs.matrix.table_row.Goals as goal

-- one digit more
digits_more : (digits : List ℕ) (l digit : ℕ) (row : ℕ → ℕ) → l < length digits → digit ≡ row l
    → ((k : ℕ) → k < l → get_or digits k 0 ≡ row k) → (k : ℕ) → k < l + 1 → get_or (set digits l digit) k 0 ≡ row k
digits_more digits l digit row room is before =
    below_more (λ k. get_or (set digits l digit) k 0 ≡ row k) l
    (λ k h. get_or-set_other digits l k digit 0 (omega arith) ∙ before k h)
    (get_or-set_same digits l digit 0 room ∙ is)

-- what stands where there is something
there : (r : Option ℕ) (P : Type 0) (v : ℕ) → P → SomeIff r P v → unwrap_or r 0 ≡ v
there (Some x) P v p is = is.1
there None P v p is = absurd (is p)

pub loop-column-preserved : goal.loop-column-preserved
loop-column-preserved c =
    let l = c.loop-column.column in
    digits_more c.loop-column.digit-items l c.unwrap_or.result ((model c.args.table.now).entry c.args.coordinate c.args.row)
    (omega (arith, c.loop-column.auto.digit-items, c.loop-column-test.true))
    (c.unwrap_or.ensures
    ∙ there c.entry.result _ _
    (record {
      coordinate = c.requires.coordinate;
      row_least = c.requires.row.0;
      row_most = c.requires.row.1;
      column = omega (arith, c.loop-column-test.true, c.requires.columns, length-take {A = ℕ} c.args.columns (replicate 32 0));
    })
    c.entry.ensures)
    c.loop-column.invariant
