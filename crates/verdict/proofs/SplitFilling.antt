-- Filling in the rows of a split: the counts so far, one count more, and one row more. Assumes nothing.
use Rattle.std.proofs.Common.{◌≡◌, ℕ, zero, suc, ◌+◌, ◌<◌, ◌≤◌, List, [], ◌∷◌, length, get_or, set, sym, ap, ◌∙◌, subst, ⊎_elim, zero-add, arith}
use Rattle.std.proofs.lemmas.List.{get_or-set_other, get_or-set_same}
use Rattle.std.proofs.lemmas.Bool.{cases_lt}
use Rattle.base.specs.Independence.{split_row}
use Rattle.base.specs.Nets.{total}
use Rattle.base.specs.Tables.{TableModel}
use Rattle.nets.proofs.SplitPlaces.{InSplit, place_below, row_at_place, rows_before}
use Rattle.verdict.specs.Matrices.{SplitRows, digits_of}

-- one count more
pub rows_before_more : (ds : List ℕ) (j : ℕ) → j < length ds → rows_before ds (suc j) ≡ rows_before ds j + get_or ds j 0
rows_before_more [] j h = elim h [ ]
rows_before_more (d ∷ ds) zero h = omega arith
rows_before_more (d ∷ ds) (suc j) h = omega (arith, rows_before_more ds j (omega (arith, h)))

-- where the counts together are at most m, a row of theirs has its place below m
pub place_fits : (ds : List ℕ) (m n j k : ℕ) → total ds ≤ m → InSplit ds j k → n ≡ rows_before ds j + k → n < m
place_fits ds m n j k few inside place = omega (arith, place_below ds j k inside)

-- one row more
pub split_rows_more : (T : TableModel) (ds : List ℕ) (m n j k : ℕ) (rows : List (List ℕ)) (row : List ℕ) → n < length rows
    → n ≡ rows_before ds j + k → InSplit ds j k → ((l : ℕ) → l < m → get_or row l 0 ≡ T.entry j (k + 1) l)
    → SplitRows T ds m n rows → SplitRows T ds m (n + 1) (set rows n row)
split_rows_more T ds m n j k rows row room place inside is before i l low column =
    ⊎_elim
    (λ less. ap (λ r. get_or r l 0) (get_or-set_other rows n i row [] (omega (arith, less))) ∙ before i l less column)
    (λ more.
    let here : n ≡ i = omega (arith, low, more) in
    let next : k + 1 ≡ suc k = omega arith in
    subst (λ i. digits_of (set rows n row) i l ≡ split_row T 0 ds i l) here
    (ap (λ r. get_or r l 0) (get_or-set_same rows n row [] room) ∙ is l column ∙ ap (λ r. T.entry j r l) next
    ∙ sym (ap (λ r. r l) (ap (split_row T 0 ds) place ∙ row_at_place T ds 0 j k inside ∙ ap (λ n. T.entry n (suc k)) (zero-add j)))))
    (cases_lt i n)
