-- The calls of an open run answer by the relation, and leave the coordinates at the index of the position. Assumes nothing.
use Rattle.std.proofs.Common.{◌≡◌, ℕ, ◌+◌, ◌^◌, ◌<◌, ◌≤◌, ltb, List, length, get_or, sym, refl, ◌∙◌, subst, subst₂, ⊎_elim, arith}
use Rattle.std.proofs.lemmas.Bool.{cases_lt, cond-false, cond-true, le-ltb, lt-ltb}
use Rattle.base.specs.Blocks.{TableOver}
use Rattle.base.specs.Orders.{OrderLaws, digit}
use Rattle.base.specs.Scramblers.{ScramblerLaws}
use Rattle.base.specs.Tables.{TableModel}
use Rattle.run.specs.Present.{Moved, Present, changed_digits}
use Rattle.run.specs.Runs.{Agree, Answers, Parts, at_accepted, changes_after, opened, pointed, step_accepted, stepped}
use Rattle.run.specs.Written.{Writes}
use Rattle.run.specs.declared.coordinate.Coordinate.{Coordinate}
use Rattle.run.specs.declared.replay.Call.TheVariants.{Step, At}
use Rattle.run.proofs.Points.{written_point}

module _ (P : Parts) (T : TableModel) (over : TableOver P.field T) (agree : Agree P T) (ordering : OrderLaws P.order) where
  -- the index of a position is below q^M
  pub index_below : (n : ℕ) → n < T.q ^ T.digits → P.order.index n < T.q ^ T.digits
  index_below n h =
      subst₂ (λ q M. P.order.index n < q ^ M) agree.order_q agree.order_digits
      (ordering.below n (subst₂ (λ q M. n < q ^ M) (sym agree.order_q) (sym agree.order_digits) h))

  module _ (p changed : ℕ) (before after : List Coordinate) (low : p < T.q ^ T.digits)
      (moved : p + 1 < T.q ^ T.digits → Moved P.field T (P.order.index p) (P.order.index (p + 1)) before after changed)
      (last : T.q ^ T.digits ≤ p + 1 → changed ≡ 0) (present : Present P.field T (digit T.q (P.order.index p)) before) where
    -- the coordinates are moved on
    pub moved_on : p + 1 < T.q ^ T.digits → Present P.field T (digit T.q (P.order.index (p + 1))) after
    moved_on h = (moved h agree.field_q (index_below p low) (index_below (p + 1) h) present).0

    -- and the number of changed digits is that of the definition
    changes : changed ≡ changes_after P T p
    changes =
        let many = changed_digits T.q T.digits (P.order.index p) (P.order.index (p + 1)) in
        ⊎_elim
        (λ h. (moved h agree.field_q (index_below p low) (index_below (p + 1) h) present).1
        ∙ sym (cond-true (ltb (p + 1) (T.q ^ T.digits)) many 0 (lt-ltb (p + 1) (T.q ^ T.digits) h)))
        (λ h. last h ∙ sym (cond-false (ltb (p + 1) (T.q ^ T.digits)) many 0 (le-ltb (p + 1) (T.q ^ T.digits) h)))
        (cases_lt (p + 1) (T.q ^ T.digits))

    pub step_answers : ScramblerLaws P.scrambler → (room : ℕ) (out : List ℕ) → room ≡ T.coordinates → length out ≡ room
        → ((j : ℕ) → j < room → Writes P.scrambler T.q T.digits before j (get_or out j 0))
        → Answers P (opened T p) (Step room) (stepped p changed out) (opened T (p + 1))
    step_answers scrambling room out fits size writes =
        subst₂ (λ k xs. Answers P (opened T p) (Step room) (stepped p k xs) (opened T (p + 1))) (sym changes)
        (sym (written_point P T over agree scrambling (P.order.index p) before present p out refl (size ∙ fits)
        (λ j h. writes j (omega (arith, h, size)))))
        (step_accepted T p room ((λ other. other fits), ((λ past. omega (arith, past, low)), tt)))

  pub at_answers : ScramblerLaws P.scrambler → (p n room : ℕ) (coordinates : List Coordinate) (out : List ℕ) → n < T.q ^ T.digits
      → Present P.field T (digit T.q (P.order.index n)) coordinates → room ≡ T.coordinates → length out ≡ room
      → ((j : ℕ) → j < room → Writes P.scrambler T.q T.digits coordinates j (get_or out j 0))
      → Answers P (opened T p) (At n room) (pointed out) (opened T p)
  at_answers scrambling p n room coordinates out low present fits size writes =
      subst (λ xs. Answers P (opened T p) (At n room) (pointed xs) (opened T p))
      (sym (written_point P T over agree scrambling (P.order.index n) coordinates present n out refl (size ∙ fits)
      (λ j h. writes j (omega (arith, h, size)))))
      (at_accepted T p n room ((λ other. other fits), ((λ past. omega (arith, past, low)), tt)))
