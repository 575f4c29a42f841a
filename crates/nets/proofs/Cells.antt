-- A cell of a split at the indexes of a block. By the scrambler's law the first d digits of a scrambled word are given exactly if
-- those of the word are; a digit of the word is a row's left side in the m low digits of the index, plus a sum that is the same in
-- the whole block. So a point lies in a cell exactly if the low digits of its index solve a system whose rows are the split's; each
-- cell has its right sides, and each right sides have their cell. Assumes nothing.
use Rattle.std.proofs.Common.{◌≡◌, ℕ, zero, suc, ◌+◌, ◌-◌, ◌*◌, ◌/◌, ◌^◌, ◌<◌, ◌≤◌, Bool, true, false, cond, ◌&&◌, eqb, ltb, List, [], ◌∷◌, map, length, get_or, take, sym, refl, ap, ◌∙◌, subst, ap₂, ⊎_elim, add-zero, add-suc, add-one, arith}
use mathlib.Core.Path.{fun_ext}
use Rattle.std.proofs.lemmas.List.FromFn.{fill_by_all, get_or-map-range_with_len, length-map-range_with_len, take-map-range_with_len}
use Rattle.std.proofs.lemmas.Bool.{cases_Bool, cases_lt, cond-false, cond-true, eq-eqb, eqb-true, false≢true, le-ltb, lt-ltb}
use Rattle.std.specs.List.{range_with_len}
use Rattle.base.proofs.FieldAlgebra.{sum_over_digit, sum_zero_right, zero_digit}
use Rattle.base.specs.Fields.{FieldLaws, FieldModel}
use Rattle.base.specs.Independence.{split_row}
use Rattle.base.specs.Nets.{Cell, in_cell, total}
use Rattle.base.specs.Orders.{digit}
use Rattle.base.specs.Points.{numerator, row, word}
use Rattle.base.specs.Scramblers.{ScramblerLaws, ScramblerModel, Scrambles, Word}
use Rattle.base.specs.Tables.{Inside, TableModel}
use Rattle.nets.specs.Leading.{Matched}
use Rattle.nets.specs.Rows.{all_below, left_side, solves}
use Rattle.nets.proofs.BlockRows.{block_row, high_side}
use Rattle.nets.proofs.Numbers.{leading_number, number_of_word_of, word_number_below, word_of_number, word_of}
use Rattle.nets.proofs.Scramblers.{same_number, scramblers_permute_cells_spec, word_taken}
use Rattle.nets.proofs.Systems.{all_passes, all_same, digit_below, left_side_digit, passes_all}

-- two tests are the same if each passes where the other does
same_test : (a b : Bool) → (a ≡ true → b ≡ true) → (b ≡ true → a ≡ true) → a ≡ b
same_test a b to back =
    ⊎_elim (λ e. e ∙ sym (to e))
    (λ e. ⊎_elim (λ g. absurd (false≢true (sym e ∙ back g))) (λ g. e ∙ sym g) (cases_Bool b))
    (cases_Bool a)

and_assoc : (a b c : Bool) → (a && (b && c)) ≡ ((a && b) && c)
and_assoc true b c = refl
and_assoc false b c = refl

and_true : (a : Bool) → a ≡ (a && true)
and_true true = refl
and_true false = refl

-- a test of the numbers below a + b in two parts
all_joined : (a b : ℕ) (P : ℕ → Bool) → all_below (a + b) P ≡ (all_below a P && all_below b (λ i. P (a + i)))
all_joined a zero P = ap (λ k. all_below k P) (add-zero a) ∙ and_true (all_below a P)
all_joined a (suc b) P =
    ap (λ k. all_below k P) (add-suc a b) ∙ ap (λ x. x && P (a + b)) (all_joined a b P)
    ∙ sym (and_assoc (all_below a P) (all_below b (λ i. P (a + i))) (P (a + b)))

-- the first d of the one, and after them the other from its beginning
abbrev pub joined : {X : Type 0} → ℕ → (ℕ → X) → (ℕ → X) → ℕ → X
joined d first later i = cond (ltb i d) (first i) (later (i - d))

pub joined_first : {X : Type 0} (d : ℕ) (first later : ℕ → X) (i : ℕ) → i < d → joined d first later i ≡ first i
joined_first d first later i h = cond-true (ltb i d) (first i) (later (i - d)) (lt-ltb i d h)

pub joined_later : {X : Type 0} (d : ℕ) (first later : ℕ → X) (i : ℕ) → joined d first later (d + i) ≡ later i
joined_later d first later i =
    let rest : d + i - d ≡ i = omega arith in
    cond-false (ltb (d + i) d) (first (d + i)) (later (d + i - d)) (le-ltb (d + i) d (omega arith)) ∙ ap later rest

joined_whole : (d : ℕ) (y : ℕ → ℕ) → joined d y (λ i. y (d + i)) ≡ y
joined_whole d y =
    fun_ext (λ i. ⊎_elim (joined_first d y (λ i. y (d + i)) i)
    (λ h.
    let is : d + (i - d) ≡ i = omega arith in
    ap (joined d y (λ k. y (d + k))) (sym is) ∙ joined_later d y (λ k. y (d + k)) (i - d) ∙ ap y is)
    (cases_lt i d))

-- ---- from one side to the other

module _ (F : FieldModel) (laws : FieldLaws F) (x y v : ℕ) (h : x < F.q) (g : y < F.q) (k : v < F.q) where
  -- x + y = v gives x = v - y
  sum_moved : F.sum x y ≡ v → x ≡ F.sum v (F.negative y)
  sum_moved e =
      sym (sum_zero_right F laws x h) ∙ ap (F.sum x) (sym (laws.sum_negative y g))
      ∙ sym (laws.sum_assoc x y (F.negative y) h g (laws.negative_digit y g)) ∙ ap (λ z. F.sum z (F.negative y)) e

  -- x = v - y gives x + y = v
  sum_moved_back : x ≡ F.sum v (F.negative y) → F.sum x y ≡ v
  sum_moved_back e =
      let n = laws.negative_digit y g in
      ap (λ z. F.sum z y) e ∙ laws.sum_assoc v (F.negative y) y k n g
      ∙ ap (F.sum v) (laws.sum_comm (F.negative y) y n g ∙ laws.sum_negative y g) ∙ sum_zero_right F laws v k

module _ (F : FieldModel) (laws : FieldLaws F) (M s : ℕ) (entry : ℕ → ℕ → ℕ → ℕ) (scramble : ℕ → List ℕ → List ℕ)
    (digits : (j k l : ℕ) → Inside M s j k l → entry j k l < F.q)
    (scrambling : ScramblerLaws (record { q = F.q; digits = M; coordinates = s; scramble = scramble }))
    (m c : ℕ) (within : m ≤ M) where
  abbrev pub T : TableModel
  T = record { q = F.q; digits = M; coordinates = s; entry = entry }

  abbrev pub S : ScramblerModel
  S = record { q = F.q; digits = M; coordinates = s; scramble = scramble }

  -- the index at place r of block c
  abbrev pub index_at : ℕ → ℕ
  index_at r = c * F.q ^ m + r

  -- the numerators of the point at this index
  abbrev pub numerators : ℕ → ℕ → ℕ
  numerators r j = numerator F.q (scramble j (word F T j (index_at r)))

  entry_digit : (j i l : ℕ) → j < s → i < M → l < M → entry j (suc i) l < F.q
  entry_digit j i l h g k =
      digits j (suc i) l (record { coordinate = h; row_least = omega arith; row_most = omega (arith, g); column = k })

  row_digit : (j i n : ℕ) → j < s → i < M → row F T j n (suc i) < F.q
  row_digit j i n h g =
      sum_over_digit F laws M (λ l. F.product (entry j (suc i) l) (digit F.q n l))
      (λ l k. laws.product_digit (entry j (suc i) l) (digit F.q n l) (entry_digit j i l h g k) (digit_below F laws n l))

  word_digit : (j n i : ℕ) → i < M → get_or (word F T j n) i 0 ≡ row F T j n (suc i)
  word_digit j n i h = get_or-map-range_with_len (row F T j n) 1 M i (suc i) 0 h (omega arith)

  word_scrambles : (j n : ℕ) → j < s → Scrambles S j (word F T j n)
  word_scrambles j n h = (
    h,
    (
      length-map-range_with_len (row F T j n) 1 M,
      λ i g.
          let inside : i < M = omega (arith, g, length-map-range_with_len (row F T j n) 1 M) in
          subst (λ x. x < F.q) (sym (word_digit j n i inside)) (row_digit j i n h inside),
    ),
  )

  -- ---- one coordinate

  module _ (j d : ℕ) (h : j < s) (few : d ≤ M) where
    -- what a row's sum over the columns from m on is, in the whole block
    abbrev pub high : ℕ → ℕ
    high i = high_side F M m (entry j (suc i)) c

    high_digit : (i : ℕ) → i < d → high i < F.q
    high_digit i g =
        sum_over_digit F laws (M - m) (λ l. F.product (entry j (suc i) (m + l)) (digit F.q c l))
        (λ l k. laws.product_digit (entry j (suc i) (m + l)) (digit F.q c l)
        (entry_digit j i (m + l) h (omega (arith, g, few)) (omega (arith, k, within))) (digit_below F laws c l))

    -- the right sides of the words that begin with u
    abbrev pub right : List ℕ → ℕ → ℕ
    right u i = F.sum (get_or u i 0) (F.negative (high i))

    right_digit : (u : List ℕ) → Word F.q d u → (i : ℕ) → i < d → right u i < F.q
    right_digit u a i g =
        laws.sum_digit (get_or u i 0) (F.negative (high i)) (a.1 i (omega (arith, g, a.0))) (laws.negative_digit (high i) (high_digit i g))

    -- the left side of a row at a place of the block
    abbrev pub left : ℕ → ℕ → ℕ
    left r i = left_side F m (entry j (suc i)) (digit F.q r)

    left_digit : (r i : ℕ) → i < d → left r i < F.q
    left_digit r i g =
        left_side_digit F laws m (entry j (suc i)) (digit F.q r)
        (λ l k. entry_digit j i l h (omega (arith, g, few)) (omega (arith, k, within))) (λ l k. digit_below F laws r l)

    row_is : (r i : ℕ) → r < F.q ^ m → i < d → row F T j (index_at r) (suc i) ≡ F.sum (left r i) (high i)
    row_is r i below g =
        block_row F laws M m c r (entry j (suc i)) within below (λ l k. entry_digit j i l h (omega (arith, g, few)) k)

    -- a test of all the equations of the coordinate
    abbrev pub equations : (ℕ → ℕ) → ℕ → Bool
    equations y r = all_below d (λ i. eqb (left r i) (y i))

    begins_solves : (u : List ℕ) → Word F.q d u → (r : ℕ) → r < F.q ^ m → take d (word F T j (index_at r)) ≡ u → equations (right u) r ≡ true
    begins_solves u a r below e =
        passes_all d (λ i. eqb (left r i) (right u i))
        (λ i g. eq-eqb (left r i) (right u i)
        (sum_moved F laws (left r i) (high i) (get_or u i 0) (left_digit r i g) (high_digit i g) (a.1 i (omega (arith, g, a.0)))
        (sym (row_is r i below g)
        ∙ sym (get_or-map-range_with_len (row F T j (index_at r)) 1 d i (suc i) 0 g (omega arith))
        ∙ ap (λ w. get_or w i 0) (sym (take-map-range_with_len (row F T j (index_at r)) 1 M d few) ∙ e))))

    solves_begins : (u : List ℕ) → Word F.q d u → (r : ℕ) → r < F.q ^ m → equations (right u) r ≡ true → take d (word F T j (index_at r)) ≡ u
    solves_begins u a r below all =
        let f : ℕ → ℕ = λ i. row F T j (index_at r) (suc i) in
        let digit_is : (i : ℕ) → i < d → get_or u i 0 ≡ f i = λ i g.
        sym (row_is r i below g
        ∙ sum_moved_back F laws (left r i) (high i) (get_or u i 0) (left_digit r i g) (high_digit i g) (a.1 i (omega (arith, g, a.0)))
        (eqb-true (left r i) (right u i) (all_passes d (λ i. eqb (left r i) (right u i)) all i g))) in
        take-map-range_with_len (row F T j (index_at r)) 1 M d few
        ∙ fill_by_all f (map (row F T j (index_at r)) (range_with_len 1 d)) d 0 (length-map-range_with_len (row F T j (index_at r)) 1 d)
        (λ i g. get_or-map-range_with_len (row F T j (index_at r)) 1 d i (suc i) 0 g (omega arith))
        ∙ sym (fill_by_all f u d 0 a.0 digit_is)

    -- the leading digits w of a result, that belong to the leading digits u of a word: a numerator begins with w exactly if the
    -- equations with the right sides of u hold
    matched_cell : (u w : List ℕ) → Word F.q d u → Word F.q d w → Matched S j d u w → (r : ℕ) → r < F.q ^ m
        → eqb (numerators r j / F.q ^ (M - d)) (numerator F.q w) ≡ equations (right u) r
    matched_cell u w a b matched r below =
        let some : 1 ≤ F.q = zero_digit F laws in
        let here = word_scrambles j (index_at r) h in
        let result = scramble j (word F T j (index_at r)) in
        let result_word = scrambling.words j (word F T j (index_at r)) here in
        let leading = leading_number F.q M d result some few result_word in
        same_test (eqb (numerators r j / F.q ^ (M - d)) (numerator F.q w)) (equations (right u) r)
        (λ t. begins_solves u a r below (matched.back (word F T j (index_at r)) here
        (same_number F.q d (take d result) w (word_taken F.q M d result few result_word) b
        (sym leading ∙ eqb-true (numerators r j / F.q ^ (M - d)) (numerator F.q w) t))))
        (λ t. eq-eqb (numerators r j / F.q ^ (M - d)) (numerator F.q w)
        (leading ∙ ap (numerator F.q) (matched.forth (word F T j (index_at r)) here (solves_begins u a r below t))))

    -- v, of d digits, and the right sides y say the same of every point of the block
    pub record CoordinateSystem (v : ℕ) (y : ℕ → ℕ) : Type 0 where
      pub sides : (i : ℕ) → i < d → y i < F.q
      pub same : (r : ℕ) → r < F.q ^ m → eqb (numerators r j / F.q ^ (M - d)) v ≡ equations y r

    -- each number below q^d has its right sides
    number_system : (v : ℕ) → v < F.q ^ d → (y : ℕ → ℕ) × CoordinateSystem v y
    number_system v below =
        let some : 1 ≤ F.q = zero_digit F laws in
        let w = word_of F.q d v in
        let w_word = word_of_number F.q d v some below in
        let found = (scramblers_permute_cells_spec S scrambling j d h few).0 w w_word in (
          right found.0,
          record {
            sides = right_digit found.0 found.1;
            same = λ r k.
                ap (eqb (numerators r j / F.q ^ (M - d))) (sym (number_of_word_of F.q d v some below))
                ∙ matched_cell found.0 w found.1 w_word found.2 r k;
          },
        )

    -- and right sides have their number below q^d
    system_number : (y : ℕ → ℕ) → ((i : ℕ) → i < d → y i < F.q) → (v : ℕ) × (v < F.q ^ d) × CoordinateSystem v y
    system_number y sides =
        let f : ℕ → ℕ = λ i. F.sum (y i) (high i) in
        let u = map f (range_with_len 0 d) in
        let digit_is : (i : ℕ) → i < d → get_or u i 0 ≡ f i = λ i g. get_or-map-range_with_len f 0 d i i 0 g (omega arith) in
        let f_digit : (i : ℕ) → i < d → f i < F.q = λ i g. laws.sum_digit (y i) (high i) (sides i g) (high_digit i g) in
        let size : length u ≡ d = length-map-range_with_len f 0 d in
        let u_word : Word F.q d u = (
          size,
          λ i g.
              let inside : i < d = omega (arith, g, size) in subst (λ x. x < F.q) (sym (digit_is i inside)) (f_digit i inside),
        ) in
        let found = (scramblers_permute_cells_spec S scrambling j d h few).1 u u_word in
        let right_is : (i : ℕ) → i < d → right u i ≡ y i = λ i g.
        ap (λ x. F.sum x (F.negative (high i))) (digit_is i g)
        ∙ sym (sum_moved F laws (y i) (high i) (f i) (sides i g) (high_digit i g) (f_digit i g) refl) in (
          numerator F.q found.0,
          word_number_below F.q d found.0 found.1,
          record {
            sides = sides;
            same = λ r k.
                matched_cell u found.0 u_word found.1 found.2 r k
                ∙ all_same d (λ i. eqb (left r i) (right u i)) (λ i. eqb (left r i) (y i)) (λ i g. ap (eqb (left r i)) (right_is i g));
          },
        )

  -- ---- the coordinates together

  -- a cell of counts from coordinate j on, and right sides of their rows, say the same of every point of the block
  pub record CellSystem (j : ℕ) (ds cell : List ℕ) (y : ℕ → ℕ) : Type 0 where
    pub sides : (i : ℕ) → i < total ds → y i < F.q
    pub same : (r : ℕ) → r < F.q ^ m
        → in_cell F.q M ds cell (map (numerators r) (range_with_len j (length ds))) ≡ solves F (total ds) m (split_row T j ds) y (digit F.q r)

  none_system : (j : ℕ) (y : ℕ → ℕ) → CellSystem j [] [] y
  none_system j y = record { sides = λ i g. elim g [ ]; same = λ r k. refl }

  joined_system : (j d v : ℕ) (ds vs : List ℕ) (h : j < s) (few : d ≤ M) (y z : ℕ → ℕ) → CoordinateSystem j d h few v y
      → CellSystem (suc j) ds vs z → CellSystem j (d ∷ ds) (v ∷ vs) (joined d y z)
  joined_system j d v ds vs h few y z head tail =
      record {
        sides = λ i g. ⊎_elim
            (λ low. subst (λ x. x < F.q) (sym (joined_first d y z i low)) (head.sides i low))
            (λ low.
            let is : d + (i - d) ≡ i = omega arith in
            subst (λ k. joined d y z k < F.q) is
            (subst (λ x. x < F.q) (sym (joined_later d y z (i - d))) (tail.sides (i - d) (omega (arith, g, low)))))
            (cases_lt i d);
        same = λ r k.
            let x = digit F.q r in
            let A = split_row T j (d ∷ ds) in
            let P : ℕ → Bool = λ i. eqb (left_side F m (A i) x) (joined d y z i) in
            let first : all_below d P ≡ equations j d h few y r = all_same d P (λ i. eqb (left j d h few r i) (y i))
            (λ i g. ap₂ (λ a b. eqb (left_side F m a x) b) (joined_first d (λ i. entry j (suc i)) (split_row T (suc j) ds) i g) (joined_first d y z i g)) in
            let later : all_below (total ds) (λ i. P (d + i)) ≡ solves F (total ds) m (split_row T (suc j) ds) z x =
            all_same (total ds) (λ i. P (d + i)) (λ i. eqb (left_side F m (split_row T (suc j) ds i) x) (z i))
            (λ i g. ap₂ (λ a b. eqb (left_side F m a x) b) (joined_later d (λ i. entry j (suc i)) (split_row T (suc j) ds) i) (joined_later d y z i)) in
            ap₂ ◌&&◌ (head.same r k)
            (ap (λ n. in_cell F.q M ds vs (map (numerators r) (range_with_len n (length ds)))) (add-one j) ∙ tail.same r k)
            ∙ ap₂ ◌&&◌ (sym first) (sym later) ∙ sym (all_joined d (total ds) P);
      }

  -- each cell has its right sides
  pub cell_system : (ds cell : List ℕ) (j : ℕ) → j + length ds ≤ s → total ds ≤ M → Cell F.q ds cell → (y : ℕ → ℕ) × CellSystem j ds cell y
  cell_system [] [] j h few is = ((λ i. 0), none_system j (λ i. 0))
  cell_system [] (v ∷ vs) j h few is = elim is [ ]
  cell_system (d ∷ ds) [] j h few is = elim is [ ]
  cell_system (d ∷ ds) (v ∷ vs) j h few is =
      let low : j < s = omega (arith, h) in
      let small : d ≤ M = omega (arith, few) in
      let head = number_system j d low small v is.0 in
      let tail = cell_system ds vs (suc j) (omega (arith, h)) (omega (arith, few)) is.1 in
      (joined d head.0 tail.0, joined_system j d v ds vs low small head.0 tail.0 head.1 tail.1)

  -- and right sides have their cell
  pub system_cell : (ds : List ℕ) (j : ℕ) (y : ℕ → ℕ) → j + length ds ≤ s → total ds ≤ M → ((i : ℕ) → i < total ds → y i < F.q)
      → (cell : List ℕ) × Cell F.q ds cell × CellSystem j ds cell y
  system_cell [] j y h few sides = ([], tt, none_system j y)
  system_cell (d ∷ ds) j y h few sides =
      let low : j < s = omega (arith, h) in
      let small : d ≤ M = omega (arith, few) in
      let head = system_number j d low small y (λ i g. sides i (omega (arith, g))) in
      let tail = system_cell ds (suc j) (λ i. y (d + i)) (omega (arith, h)) (omega (arith, few)) (λ i g. sides (d + i) (omega (arith, g))) in (
        head.0 ∷ tail.0,
        (head.1, tail.1),
        subst (CellSystem j (d ∷ ds) (head.0 ∷ tail.0)) (joined_whole d y)
            (joined_system j d head.0 ds tail.0 low small y (λ i. y (d + i)) head.2 tail.2),
      )
