-- From present digits to points. At the index 0 the rows are 0. Coordinates that show the rows at an index hold the words there, and
-- the numerators written from them are those of the point formula. Assumes nothing.
use Rattle.std.proofs.Common.{◌≡◌, ℕ, suc, ◌/◌, ◌%◌, ◌^◌, ◌<◌, ◌≤◌, List, length, get_or, take, replicate, sym, ap, ◌∙◌, subst, mod-lt, arith}
use native.Mathlib.Nat.{zero-div, zero-mod}
use Rattle.std.proofs.lemmas.List.FromFn.{fill_by_all, get_or-map-range_with_len, length-map-range_with_len}
use Rattle.std.proofs.lemmas.List.{get_or-replicate, get_or-take, length-take-le}
use Rattle.base.proofs.FieldAlgebra.{product_zero_right, sum_over_digit, sum_over_same}
use Rattle.base.proofs.Widths.{at_most_32_digits}
use Rattle.base.specs.Blocks.{TableOver}
use Rattle.base.specs.Fields.{FieldModel}
use Rattle.base.specs.Orders.{digit}
use Rattle.base.specs.Points.{numerator, row, word}
use Rattle.base.specs.Scramblers.{ScramblerLaws, Scrambles}
use Rattle.base.specs.Tables.{Limits, TableModel}
use Rattle.nets.proofs.FieldSums.{sum_over_none}
use Rattle.run.specs.Present.{Present, no_digits}
use Rattle.run.specs.Runs.{Agree, Parts, point_of}
use Rattle.run.specs.Written.{Readable, Writes}
use Rattle.run.specs.declared.coordinate.Coordinate.{Coordinate}
use Rattle.run.proofs.Moving.{entry_digit}

-- records of zeros show the rows at the index 0
pub zeros_present : (F : FieldModel) (T : TableModel) → TableOver F T → T.coordinates ≤ 8 → T.digits ≤ 32
    → Present F T (digit T.q 0) (replicate 8 (record { digits = replicate 32 0 }))
zeros_present F T over few narrow j k hj hk =
    ap (λ c. get_or c.digits k 0) (get_or-replicate 8 j (record { digits = replicate 32 0 }) no_digits (omega (arith, hj, few)))
    ∙ get_or-replicate 32 k 0 0 (omega (arith, hk, narrow))
    ∙ sym (sum_over_same F T.digits (λ l. F.product (T.entry j (suc k) l) (digit T.q 0 l)) (λ l. 0)
    (λ l h. ap (F.product (T.entry j (suc k) l)) (ap (λ x. x % T.q) (zero-div (T.q ^ l)) ∙ zero-mod T.q)
    ∙ product_zero_right F over.laws (T.entry j (suc k) l) (entry_digit F T over j k l hj hk h))
    ∙ sum_over_none F over.laws T.digits)

module _ (P : Parts) (T : TableModel) (over : TableOver P.field T) (agree : Agree P T) (scrambling : ScramblerLaws P.scrambler) where
  limits : Limits T.q T.digits T.coordinates
  limits =
      subst (λ q. Limits q T.digits T.coordinates) agree.scrambler_q
      (subst (λ M. Limits P.scrambler.q M T.coordinates) agree.scrambler_digits
      (subst (Limits P.scrambler.q P.scrambler.digits) agree.scrambler_coordinates scrambling.limits))

  row_digit : (j k i : ℕ) → j < T.coordinates → k < T.digits → row P.field T j i (suc k) < T.q
  row_digit j k i hj hk =
      subst (λ q. row P.field T j i (suc k) < q) over.q
      (sum_over_digit P.field over.laws T.digits (λ l. P.field.product (T.entry j (suc k) l) (digit T.q i l))
      (λ l h. over.laws.product_digit (T.entry j (suc k) l) (digit T.q i l) (entry_digit P.field T over j k l hj hk h)
      (subst (λ q. digit T.q i l < q) (sym over.q) (mod-lt (i / T.q ^ l) (omega (arith, limits.0.0))))))

  -- the word of a coordinate is one of its scrambler's
  word_scrambles : (j i : ℕ) → j < T.coordinates → Scrambles P.scrambler j (word P.field T j i)
  word_scrambles j i hj =
      let size = length-map-range_with_len (row P.field T j i) 1 T.digits in (
        subst (λ s. j < s) (sym agree.scrambler_coordinates) hj,
        (
          size ∙ sym agree.scrambler_digits,
          λ k h.
              let inside : k < T.digits = omega (arith, h, size) in
              subst (λ q. get_or (word P.field T j i) k 0 < q) (sym agree.scrambler_q)
              (subst (λ x. x < T.q) (sym (get_or-map-range_with_len (row P.field T j i) 1 T.digits k (suc k) 0 inside (omega arith))) (row_digit j k i hj inside)),
        ),
      )

  -- so its result can be read as a number
  readable : (j i : ℕ) → j < T.coordinates → Readable T.q (P.scrambler.scramble j (word P.field T j i))
  readable j i hj =
      let result = scrambling.words j (word P.field T j i) (word_scrambles j i hj) in (
        (λ k h. subst (λ q. get_or (P.scrambler.scramble j (word P.field T j i)) k 0 < q) agree.scrambler_q (result.1 k h)),
        subst (λ n. T.q ^ n ≤ 2 ^ 32) (sym (result.0 ∙ agree.scrambler_digits)) limits.1.1,
      )

  module _ (i : ℕ) (coordinates : List Coordinate) (present : Present P.field T (digit T.q i) coordinates) where
    -- the first M present digits are the word
    present_word : (j : ℕ) → j < T.coordinates → length (get_or coordinates j no_digits).digits ≡ 32
        → take T.digits (get_or coordinates j no_digits).digits ≡ word P.field T j i
    present_word j hj size =
        let digits = (get_or coordinates j no_digits).digits in
        let f : ℕ → ℕ = λ k. row P.field T j i (suc k) in
        let narrow = at_most_32_digits T.q T.digits limits.0.0 limits.1.1 in
        fill_by_all f (take T.digits digits) T.digits 0 (length-take-le T.digits digits (omega (arith, size, narrow)))
        (λ k h. get_or-take T.digits digits k 0 h ∙ present j k hj h)
        ∙ sym (fill_by_all f (word P.field T j i) T.digits 0 (length-map-range_with_len (row P.field T j i) 1 T.digits)
        (λ k h. get_or-map-range_with_len (row P.field T j i) 1 T.digits k (suc k) 0 h (omega arith)))

    -- the numerators written are those of the point
    pub written_point : (n : ℕ) (out : List ℕ) → i ≡ P.order.index n → length out ≡ T.coordinates
        → ((j : ℕ) → j < length out → Writes P.scrambler T.q T.digits coordinates j (get_or out j 0)) → out ≡ point_of P T n
    written_point n out is size writes =
        fill_by_all (λ j. numerator T.q (P.scrambler.scramble j (word P.field T j (P.order.index n)))) out T.coordinates 0 size
        (λ j h.
        let told = writes j (omega (arith, h, size)) in
        let same = present_word j h told.size in
        told.value (subst (λ w. Readable T.q (P.scrambler.scramble j w)) (sym same) (readable j i h))
        ∙ ap (λ w. numerator T.q (P.scrambler.scramble j w)) same
        ∙ ap (λ n. numerator T.q (P.scrambler.scramble j (word P.field T j n))) is)
