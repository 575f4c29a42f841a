-- Linear independence over a field, and the splits that pass. Assumes nothing.
use Rattle.std.specs.Prelude.{◌≡◌, ℕ, suc, ◌-◌, ◌<◌, ◌≤◌, cond, List, [], ◌∷◌, nat_lt}
use Rattle.base.specs.Fields.{FieldModel, sum_over}
use Rattle.base.specs.Nets.{Split, total}
use Rattle.base.specs.Tables.{TableModel}

-- D rows of m columns are linearly independent: only with coefficients that are all 0 is each column of their combination 0.
-- A i l is the digit of row i in column l; the columns from m on have no say
abbrev pub Independent : FieldModel → ℕ → ℕ → (ℕ → ℕ → ℕ) → Type 0
Independent F D m A =
    (c : ℕ → ℕ) → ((i : ℕ) → i < D → c i < F.q) → ((l : ℕ) → l < m → sum_over F D (λ i. F.product (c i) (A i l)) ≡ 0)
    → (i : ℕ) → i < D → c i ≡ 0

-- the rows of some counts, counted through from 0: the first d rows of coordinate j, where d is the first count, then those
-- of the coordinates after it by the counts after it
abbrev pub split_row : TableModel → ℕ → List ℕ → ℕ → ℕ → ℕ
split_row T j [] i = λ l. 0
split_row T j (d ∷ ds) i = cond (nat_lt i d) (T.entry j (suc i)) (split_row T (suc j) ds (i - d))

-- a split passes: the first so many rows of each coordinate, cut to columns 0 to m - 1, are independent together
abbrev pub Passes : FieldModel → TableModel → ℕ → List ℕ → Type 0
Passes F T m counts = Independent F (total counts) m (split_row T 0 counts)

-- every split of m - t passes
abbrev pub AllPass : FieldModel → TableModel → ℕ → ℕ → Type 0
AllPass F T m t = (counts : List ℕ) → Split T.coordinates (m - t) counts → Passes F T m counts

-- t is the first number, from 0 up, for which every split of m - t passes: for each smaller u some split of m - u does not
pub record FirstPassing (F : FieldModel) (T : TableModel) (m t : ℕ) : Type 0 where
  pub within : t ≤ m
  pub passes : AllPass F T m t
  pub fails : (u : ℕ) → u < t → (counts : List ℕ) × Split T.coordinates (m - u) counts × (Passes F T m counts → ⊥)
