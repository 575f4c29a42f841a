-- The theorem of blocks. The points of a block in a cell are as many as the solutions of the cell's system, since the index runs
-- over all places of one block of indexes. If the split's rows are independent, that is q^t for every cell; if they are dependent,
-- some right sides have no solution, and their cell is empty. So the block is a net for t exactly if every split of m - t passes,
-- and the least t is the first that passes. Assumes nothing.
use Rattle.std.proofs.Common.{◌≡◌, ℕ, zero, suc, ◌+◌, ◌-◌, ◌*◌, ◌^◌, ◌<◌, ◌≤◌, Bool, cond, ◌⊎◌, List, [], ◌∷◌, map, length, sym, refl, ap, ◌∙◌, subst, ap₂, ⊎_elim, arith}
use mathlib.Core.Path.{subst₃}
use native.Mathlib.Nat.{one-le-pow}
use Rattle.std.proofs.lemmas.List.FromFn.{length-map-range_with_len}
use Rattle.std.proofs.lemmas.Bool.{cases_lt, cases_order}
use Rattle.std.specs.List.{range_with_len}
use Rattle.base.proofs.FieldAlgebra.{zero_digit}
use Rattle.base.specs.Blocks.{BlockWithin, Fit, TableOver, block_points}
use Rattle.base.specs.Fields.{FieldModel}
use Rattle.base.specs.Independence.{AllPass, FirstPassing, Passes, split_row}
use Rattle.base.specs.Nets.{Even, Least, Split, count, in_cell, total}
use Rattle.base.specs.Orders.{OrderLaws, OrderModel}
use Rattle.base.specs.Points.{numerator, point, word}
use Rattle.base.specs.Scramblers.{ScramblerLaws, ScramblerModel}
use Rattle.base.specs.Tables.{Inside, TableModel}
use Rattle.nets.specs.Rows.{Rows}
use Rattle.nets.specs.Theorem.{BlockIsNetExactlyWhenSplitsPass, BlockNet, LeastTIsTheFirstThatPasses}
use Rattle.nets.proofs.Cells.{CellSystem, cell_system, joined_first, joined_later, system_cell}
use Rattle.nets.proofs.Counting.{sum_permuted, sum_same, sum_below}
use Rattle.nets.proofs.Dependence.{independent_or_not, independent_or_unsolved}
use Rattle.nets.proofs.Orders.{block, index_is, place, place_permutes}
use Rattle.nets.proofs.Solutions.{count_is_sum}
use Rattle.nets.proofs.SplitSearch.{every_split_or_some_not}
use Rattle.nets.proofs.Systems.{counts, solved}

count_mapped : {X Y : Type 0} (P : Y → Bool) (f : X → Y) (xs : List X) → count P (map f xs) ≡ count (λ x. P (f x)) xs
count_mapped P f [] = refl
count_mapped P f (x ∷ xs) = ap (λ n. cond (P (f x)) (suc n) n) (count_mapped P f xs)

-- ---- the rows of a split

-- the rows of counts from coordinate j on hold digits
split_digits : (q : ℕ) (T : TableModel) → ((j k l : ℕ) → Inside T.digits T.coordinates j k l → T.entry j k l < q)
    → (ds : List ℕ) (j : ℕ) → j + length ds ≤ T.coordinates → total ds ≤ T.digits
    → (i l : ℕ) → i < total ds → l < T.digits → split_row T j ds i l < q
split_digits q T digits [] j h few i l g k = elim g [ ]
split_digits q T digits (d ∷ ds) j h few i l g k =
    ⊎_elim
    (λ low. subst (λ row. row l < q) (sym (joined_first d (λ i. T.entry j (suc i)) (split_row T (suc j) ds) i low))
    (digits j (suc i) l (record { coordinate = omega (arith, h); row_least = omega arith; row_most = omega (arith, low, few); column = k })))
    (λ low.
    let is : d + (i - d) ≡ i = omega arith in
    subst (λ n. split_row T j (d ∷ ds) n l < q) is
    (subst (λ row. row l < q) (sym (joined_later d (λ i. T.entry j (suc i)) (split_row T (suc j) ds) (i - d)))
    (split_digits q T digits ds (suc j) (omega (arith, h)) (omega (arith, few)) (i - d) l (omega (arith, g, low)) k)))
    (cases_lt i d)

pub split_rows : (F : FieldModel) (T : TableModel) → TableOver F T → (m d : ℕ) → m ≤ T.digits → d ≤ m → (ds : List ℕ) → Split T.coordinates d ds
    → Rows F (total ds) m (split_row T 0 ds)
split_rows F T over m d within few ds split i l g k =
    split_digits F.q T (λ j k l inside. subst (λ q. T.entry j k l < q) (sym over.q) (over.digits j k l inside)) ds 0
    (omega (arith, split.0)) (omega (arith, split.1, few, within)) i l g (omega (arith, k, within))

-- a split passes or does not
pub split_passes_or_not : (F : FieldModel) (T : TableModel) → TableOver F T → (m d : ℕ) → m ≤ T.digits → d ≤ m
    → (ds : List ℕ) → Split T.coordinates d ds → Passes F T m ds ⊎ (Passes F T m ds → ⊥)
split_passes_or_not F T over m d within few ds split =
    independent_or_not F over.laws (total ds) m (split_row T 0 ds) (split_rows F T over m d within few ds split)

-- ---- counting over a block

module _ (F : FieldModel) (M s : ℕ) (entry : ℕ → ℕ → ℕ → ℕ) (scramble : ℕ → List ℕ → List ℕ) (index : ℕ → ℕ) where
  abbrev T : TableModel
  T = record { q = F.q; digits = M; coordinates = s; entry = entry }

  abbrev S : ScramblerModel
  S = record { q = F.q; digits = M; coordinates = s; scramble = scramble }

  abbrev O : OrderModel
  O = record { q = F.q; digits = M; index = index }

  module _ (over : TableOver F T) (scrambling : ScramblerLaws S) (ordering : OrderLaws O) (m b : ℕ)
      (within : m ≤ M) (fits : (b + 1) * F.q ^ m ≤ F.q ^ M) where
    abbrev points : List (List ℕ)
    points = block_points F O S T m b

    -- the block of the indexes
    abbrev c : ℕ
    c = block O ordering m b within fits

    abbrev System : List ℕ → List ℕ → (ℕ → ℕ) → Type 0
    System = CellSystem F over.laws M s entry scramble over.digits scrambling m c within 0

    -- as many points lie in a cell as its system has solutions
    cell_count : (ds cell : List ℕ) (y : ℕ → ℕ) → length ds ≡ s → System ds cell y
        → count (in_cell F.q M ds cell) points ≡ sum_below (F.q ^ m) (solved F over.laws (total ds) m (split_row T 0 ds) y)
    cell_count ds cell y size system =
        let first = b * F.q ^ m in
        let P : ℕ → Bool = λ n. in_cell F.q M ds cell (point F O S T n) in
        let at = place O ordering m b within fits in
        let g = solved F over.laws (total ds) m (split_row T 0 ds) y in
        count_mapped (in_cell F.q M ds cell) (point F O S T) (range_with_len first (F.q ^ m))
        ∙ count_is_sum P first (F.q ^ m)
        ∙ sum_same (F.q ^ m) (λ r. cond (P (first + r)) 1 0) (λ r. g (at r))
        (λ r h. ap {B = ℕ} (λ x. cond x 1 0)
        (ap₂ (λ i n. in_cell F.q M ds cell (map (λ j. numerator F.q (scramble j (word F T j i))) (range_with_len 0 n)))
        (index_is O ordering m b within fits r h) (sym size)
        ∙ system.same (at r) ((place_permutes O ordering m b within fits).below r h)))
        ∙ sum_permuted (F.q ^ m) at g (place_permutes O ordering m b within fits)

    -- the rows of a split of m - t
    rows_of : (t : ℕ) (ds : List ℕ) → Split s (m - t) ds → Rows F (total ds) m (split_row T 0 ds)
    rows_of t ds split = split_rows F T over m (m - t) within (omega arith) ds split

    -- a split that passes is even
    passing_even : (t : ℕ) → t ≤ m → (ds : List ℕ) → Split s (m - t) ds → Passes F T m ds → Even F.q M (F.q ^ t) points ds
    passing_even t h ds split passes cell is =
        let found = cell_system F over.laws M s entry scramble over.digits scrambling m c within ds cell 0
        (omega (arith, split.0)) (omega (arith, split.1, within)) is in
        let left : m - total ds ≡ t = omega (arith, split.1, h) in
        cell_count ds cell found.0 split.0 found.1
        ∙ (counts F over.laws m (total ds) (split_row T 0 ds) (rows_of t ds split) passes).1 found.0 found.1.sides
        ∙ ap (λ k. F.q ^ k) left

    -- an even split passes
    even_passing : (t : ℕ) → (ds : List ℕ) → Split s (m - t) ds → Even F.q M (F.q ^ t) points ds → Passes F T m ds
    even_passing t ds split even =
        ⊎_elim (λ passes. passes)
        (λ unsolved.
        let found = system_cell F over.laws M s entry scramble over.digits scrambling m c within ds 0 unsolved.0
        (omega (arith, split.0)) (omega (arith, split.1, within)) unsolved.1 in
        let some : 0 < F.q ^ t = one-le-pow t F.q (zero_digit F over.laws) in
        absurd (omega (arith, some, even found.0 found.1, cell_count ds found.0 unsolved.0 split.0 found.2, unsolved.2)))
        (independent_or_unsolved F over.laws (total ds) m (split_row T 0 ds) (rows_of t ds split))

    net_exactly : (t : ℕ) → t ≤ m → (BlockNet F O S T m b t → AllPass F T m t) × (AllPass F T m t → BlockNet F O S T m b t)
    net_exactly t h = (
      (λ net ds split. even_passing t ds split (net.even ds split)),
      (λ passes. record {
        size = length-map-range_with_len (point F O S T) (b * F.q ^ m) (F.q ^ m);
        within = h;
        even = λ ds split. passing_even t h ds split (passes ds split);
      }),
    )

-- ---- parts that agree in q, M and s

-- a table, an order and a scrambler with these numbers
abbrev table_at : ℕ → TableModel → TableModel
table_at q T = record { q = q; digits = T.digits; coordinates = T.coordinates; entry = T.entry }

abbrev order_at : ℕ → ℕ → OrderModel → OrderModel
order_at q M O = record { q = q; digits = M; index = O.index }

abbrev scrambler_at : ℕ → ℕ → ℕ → ScramblerModel → ScramblerModel
scrambler_at q M s S = record { q = q; digits = M; coordinates = s; scramble = S.scramble }

pub block_is_net_exactly : BlockIsNetExactlyWhenSplitsPass
block_is_net_exactly F O S T over fit m b t block h =
    let order_same : O ≡ order_at F.q T.digits O = λ i. record { q = (fit.order_q ∙ sym over.q) i; digits = fit.order_digits i; index = O.index } in
    let scrambler_same : S ≡ scrambler_at F.q T.digits T.coordinates S = λ i. record {
      q = (fit.scrambler_q ∙ sym over.q) i;
      digits = fit.scrambler_digits i;
      coordinates = fit.scrambler_coordinates i;
      scramble = S.scramble;
    } in
    let table_same : T ≡ table_at F.q T =
    λ i. record { q = sym over.q i; digits = T.digits; coordinates = T.coordinates; entry = T.entry } in
    let P : OrderModel → ScramblerModel → TableModel → Type 0 = λ O S T.
    (BlockNet F O S T m b t → AllPass F T m t) × (AllPass F T m t → BlockNet F O S T m b t) in
    subst₃ P (sym order_same) (sym scrambler_same) (sym table_same)
    (net_exactly F T.digits T.coordinates T.entry S.scramble O.index
    (subst (TableOver F) table_same over) (subst ScramblerLaws scrambler_same fit.scrambler) (subst OrderLaws order_same fit.order)
    m b block.0 (subst (λ q. (b + 1) * q ^ m ≤ q ^ T.digits) (sym over.q) block.1) t h)

-- ---- the first t whose splits all pass

module _ (F : FieldModel) (T : TableModel) (over : TableOver F T) (m : ℕ) (within : m ≤ T.digits) where
  -- with no rows, every split passes
  last_passes : AllPass F T m m
  last_passes ds split a b d i h = absurd (omega (arith, h, split.1))

  -- for the numbers below t some split fails
  abbrev Fail : ℕ → Type 0
  Fail t = (u : ℕ) → u < t → (ds : List ℕ) × Split T.coordinates (m - u) ds × (Passes F T m ds → ⊥)

  first_passing_from : (k t : ℕ) → t + k ≡ m → Fail t → (t : ℕ) × FirstPassing F T m t
  first_passing_from zero t e fail =
      let last : m ≡ t = omega (arith, e) in
      (t, record { within = omega (arith, e); passes = subst (AllPass F T m) last last_passes; fails = fail })
  first_passing_from (suc k) t e fail =
      ⊎_elim
      (λ passes. (t, record { within = omega (arith, e); passes = passes; fails = fail }))
      (λ found. first_passing_from k (suc t) (omega (arith, e)) (λ u h. ⊎_elim
      (λ low. fail u low)
      (λ high.
      let is : t ≡ u = omega (arith, h, high) in
      subst (λ u. (ds : List ℕ) × Split T.coordinates (m - u) ds × (Passes F T m ds → ⊥)) is found)
      (cases_lt u t)))
      (every_split_or_some_not T.coordinates (m - t) (Passes F T m) (split_passes_or_not F T over m (m - t) within (omega arith)))

  first_only : (t u : ℕ) → FirstPassing F T m t → FirstPassing F T m u → t ≡ u
  first_only t u a b =
      ⊎_elim (λ e. e)
      (λ other. ⊎_elim
      (λ less. let found = b.fails t less in absurd (found.2 (a.passes found.0 found.1)))
      (λ more. let found = a.fails u more in absurd (found.2 (b.passes found.0 found.1)))
      other)
      (cases_order t u)

  first_least : (t : ℕ) → FirstPassing F T m t → (O : OrderModel) (S : ScramblerModel) → Fit O S T → (b : ℕ) → BlockWithin T m b
      → Least (BlockNet F O S T m b) t
  first_least t first O S fit b block =
      record {
        holds = (block_is_net_exactly F O S T over fit m b t block first.within).1 first.passes;
        first = λ u less net.
            let found = first.fails u less in
            found.2 ((block_is_net_exactly F O S T over fit m b u block (omega (arith, less, first.within))).0 net found.0 found.1);
      }

pub least_t_is_the_first : LeastTIsTheFirstThatPasses
least_t_is_the_first F T over m within =
    (first_passing_from F T over m within m 0 (omega arith) (λ u h. elim h [ ]), first_only F T over m within, first_least F T over m within)
