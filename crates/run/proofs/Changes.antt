-- A change of one index digit. Coordinate after coordinate, a multiple of the digit's column is added; and where one summand of a
-- row changes by a difference, so does the sum. Assumes nothing.
use Rattle.std.proofs.Common.{◌≡◌, ℕ, suc, ◌+◌, ◌-◌, ◌<◌, ◌≤◌, List, ◌++◌, length, take, drop, get_or, set, sym, refl, ap, ◌∙◌, subst, ap₂, ⊎_elim, add-one, arith}
use Rattle.std.proofs.lemmas.List.{get_or-append_right, get_or_append_left, get_or-drop, get_or-set_other, get_or-set_same, get_or-take}
use Rattle.std.proofs.lemmas.Bool.{cases_eq}
use Rattle.base.specs.Fields.{FieldModel}
use Rattle.base.specs.Tables.{TableModel}
use Rattle.run.specs.Present.{Changed, no_digits, shown}
use Rattle.run.specs.declared.coordinate.Coordinate.{Coordinate}

pub changed_none : (F : FieldModel) (T : TableModel) (l by : ℕ) (coordinates : List Coordinate) → Changed F T l by 0 coordinates coordinates
changed_none F T l by coordinates = record { changed = λ j k h. elim h [ ]; others = λ j k h. refl }

-- one coordinate more
pub changed_more : (F : FieldModel) (T : TableModel) (l by n : ℕ) (before after : List Coordinate) (x : Coordinate) → n < length after
    → T.digits ≤ 32 → ((k : ℕ) → k < 32 → get_or x.digits k 0 ≡ F.sum (shown after n k) (F.product (T.entry n (k + 1) l) by))
    → Changed F T l by n before after → Changed F T l by (n + 1) before (set after n x)
changed_more F T l by n before after x room narrow is so_far =
    record {
      changed = λ j k h low. ⊎_elim
          (λ e.
          subst (λ i. shown (set after n x) i k ≡ F.sum (shown before i k) (F.product (T.entry i (suc k) l) by)) (sym e)
          (ap (λ c. get_or c.digits k 0) (get_or-set_same after n x no_digits room) ∙ is k (omega (arith, low, narrow))
          ∙ ap₂ (λ a r. F.sum a (F.product (T.entry n r l) by)) (so_far.others n k (omega arith)) (add-one k)))
          (λ ne. ap (λ c. get_or c.digits k 0) (get_or-set_other after n j x no_digits ne) ∙ so_far.changed j k (omega (arith, h, ne)) low)
          (cases_eq j n);
      others = λ j k h.
          ap (λ c. get_or c.digits k 0) (get_or-set_other after n j x no_digits (λ e. omega (arith, e, h))) ∙ so_far.others j k (omega (arith, h));
    }

-- where the first n of some coordinates were changed, so were the first n of all
pub changed_front : (F : FieldModel) (T : TableModel) (l by n : ℕ) (before after : List Coordinate) → length after ≡ n
    → Changed F T l by n (take n before) after → Changed F T l by n before (after ++ drop n before)
changed_front F T l by n before after size front =
    record {
      changed = λ j k h low.
          ap (λ c. get_or c.digits k 0) (get_or_append_left after (drop n before) no_digits j (omega (arith, h, size))) ∙ front.changed j k h low
          ∙ ap (λ c. F.sum (get_or c.digits k 0) (F.product (T.entry j (suc k) l) by)) (get_or-take n before j no_digits h);
      others = λ j k h.
          ap (λ c. get_or c.digits k 0)
          (get_or-append_right after (drop n before) n j no_digits size h ∙ get_or-drop n before (j - n) no_digits
          ∙ ap (λ i. get_or before i no_digits) (omega (arith, h)));
    }
