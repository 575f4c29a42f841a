-- The word of a coordinate of a table, scrambled by parts that agree with it, is a word of M digits below q. Assumes nothing.
use Rattle.std.proofs.Common.{◌≡◌, ℕ, ◌+◌, ◌<◌, List, sym, refl, ◌∙◌, subst, mod-lt, arith}
use Rattle.std.proofs.lemmas.List.FromFn.{get_or-map-range_with_len, length-map-range_with_len}
use Rattle.base.proofs.FieldAlgebra.{sum_over_digit, zero_digit}
use Rattle.base.specs.Fields.{FieldLaws}
use Rattle.base.specs.Orders.{digit}
use Rattle.base.specs.Points.{row, word}
use Rattle.base.specs.Scramblers.{ScramblerLaws, Word}
use Rattle.base.specs.Tables.{TableModel}
use Rattle.run.specs.Runs.{Agree, Parts}

same_word : (q p M N : ℕ) (w : List ℕ) → q ≡ p → M ≡ N → Word q M w → Word p N w
same_word q p M N w same_q same_digits is = (is.0 ∙ same_digits, λ i h. omega (arith, is.1 i h, same_q))

module _ (P : Parts) (T : TableModel) (agree : Agree P T) (laws : FieldLaws P.field) (scrambling : ScramblerLaws P.scrambler)
    (small : (j k l : ℕ) → T.entry j k l < T.q) where
  row_digit : (j i k : ℕ) → row P.field T j i k < T.q
  row_digit j i k =
      subst (λ q. row P.field T j i k < q) agree.field_q
      (sum_over_digit P.field laws T.digits (λ l. P.field.product (T.entry j k l) (digit T.q i l))
      (λ l h.
      let some : 0 < T.q = omega (arith, agree.field_q, zero_digit P.field laws) in
      laws.product_digit (T.entry j k l) (digit T.q i l) (omega (arith, agree.field_q, small j k l))
      (subst (λ q. digit T.q i l < q) (sym agree.field_q) (mod-lt _ some))))

  -- the rows of a coordinate are a word
  table_word : (j i : ℕ) → Word T.q T.digits (word P.field T j i)
  table_word j i =
      let size = length-map-range_with_len (row P.field T j i) 1 T.digits in (
        size,
        λ n h.
            let inside : n < T.digits = omega (arith, h, size) in
            subst (λ x. x < T.q) (sym (get_or-map-range_with_len (row P.field T j i) 1 T.digits n (1 + n) 0 inside refl))
            (row_digit j i (1 + n)),
      )

  -- and so is what the scrambler makes of it
  pub scrambled_word : (j i : ℕ) → j < T.coordinates → Word T.q T.digits (P.scrambler.scramble j (word P.field T j i))
  scrambled_word j i h =
      let S = P.scrambler in
      same_word S.q T.q S.digits T.digits (S.scramble j (word P.field T j i)) agree.scrambler_q agree.scrambler_digits
      (scrambling.words j (word P.field T j i) (
        omega (arith, h, agree.scrambler_coordinates),
        same_word T.q S.q T.digits S.digits (word P.field T j i) (sym agree.scrambler_q) (sym agree.scrambler_digits) (table_word j i),
      ))
