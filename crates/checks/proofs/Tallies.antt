-- The steps of counting points in cells, as in specs/Counting.antt.
-- Each power is q times the one before it, within 33 bits. The number of a point's cell goes on by one coordinate a step, and
-- stays below the number of cells. One point more adds 1 to the counter of its cell, and a counter is at most the number of points.
-- Assumes nothing.
use Rattle.std.proofs.Common.{◌≡◌, ℕ, zero, suc, ◌+◌, ◌-◌, ◌*◌, ◌/◌, ◌^◌, ◌<◌, ◌≤◌, Bool, cond, eqb, List, [], ◌∷◌, ◌++◌, length, get_or, take, drop, set, sym, refl, ap, ◌∙◌, subst, ap₂, ⊎_elim, add-zero, mul-le-mul_right, suc-mul, mul_comm, lt_of_mul-lt-mul_right, add-one, arith, pow-add, pow-suc}
use native.Mathlib.Nat.{one-le-pow, pow-le-pow_right}
use Rattle.std.proofs.lemmas.Nat.{div_below, mul-add-lt}
use Rattle.std.proofs.lemmas.List.FromFn.{map-range_with_len_more, length-map-range_with_len}
use Rattle.std.proofs.lemmas.List.{drop_at, drop-drop, drop_more, get_or-drop, get_or-set_other, get_or-set_same, length-append, length-drop, take_at, take_more}
use Rattle.std.proofs.lemmas.Bool.{cases_eq, cond_both, cond-false, cond-true, eq-eqb, ne_eqb}
use Rattle.std.specs.Slice.Iter.{chunks_exact_remainder, chunks_exact_rest, chunks_exact_size}
use Rattle.std.specs.declared.slice.ChunksExact.{ChunksExact}
use Rattle.base.specs.Nets.{count, total}
use Rattle.checks.specs.Counting.{cell_of, points_of}
use Rattle.checks.specs.declared.grid.Grid.{Grid}

-- ---- counts and their totals

pub count_within_total : (ds : List ℕ) (j : ℕ) → get_or ds j 0 ≤ total ds
count_within_total [] j = omega arith
count_within_total (d ∷ ds) zero = omega arith
count_within_total (d ∷ ds) (suc j) = omega (arith, count_within_total ds j)

pub front_within_total : (j : ℕ) (ds : List ℕ) → total (take j ds) ≤ total ds
front_within_total zero ds = omega arith
front_within_total (suc j) [] = omega arith
front_within_total (suc j) (d ∷ ds) = omega (arith, front_within_total j ds)

total_push : (ds : List ℕ) (d : ℕ) → total (ds ++ d ∷ []) ≡ total ds + d
total_push [] d = omega arith
total_push (x ∷ ds) d = omega (arith, total_push ds d)

pub total_more : (ds : List ℕ) (j : ℕ) → j < length ds → total (take (j + 1) ds) ≡ total (take j ds) + get_or ds j 0
total_more ds j h = ap total (take_more ds j 0 h) ∙ total_push (take j ds) (get_or ds j 0)

-- ---- powers of q

power_more : (q k : ℕ) → q ^ (k + 1) ≡ q ^ k * q
power_more q k = ap (λ n. q ^ n) (add-one k) ∙ pow-suc q k

-- the power after q^i fits where q^M does
pub next_power_fits : (q M i p r : ℕ) → 2 ≤ q → q ^ M ≤ 2 ^ 32 → i < M → r ≡ q → p ≡ q ^ i → p * r ≤ 2 ^ 32
next_power_fits q M i p r base fits low is at =
    rw (is, at, ← power_more q i) (omega (arith, fits, pow-le-pow_right {n = q} (omega arith) {i = i + 1} {j = M} (omega arith)))

-- q^0 to q^M are in a list, none above 2^32
pub record Powers (q M : ℕ) (powers : List ℕ) : Type 0 where
  pub some : 1 ≤ q
  pub fits : q ^ M ≤ 2 ^ 32
  pub are : (k : ℕ) → k ≤ M → get_or powers k 0 ≡ q ^ k

pub grid_powers : (g : Grid) → Powers g.shape.q g.shape.digits g.powers
grid_powers g = record { some = omega (arith, g.shape.base.0); fits = g.shape.width.1; are = g.powers_are }

pub cells_fit : (q M : ℕ) (powers ds : List ℕ) (j : ℕ) → Powers q M powers → total ds ≤ M → q ^ total (take j ds) ≤ 2 ^ 32
cells_fit q M powers ds j p h =
    omega (arith, p.fits, pow-le-pow_right {n = q} (omega (arith, p.some)) {i = total (take j ds)} {j = M} (omega (arith, front_within_total j ds)))

-- ---- the number of a cell

-- the number after one coordinate more, by the list of powers
abbrev pub cell_with : ℕ → List ℕ → ℕ → ℕ → ℕ → ℕ
cell_with M powers cell d X = cell * get_or powers d 0 + X / get_or powers (M - d) 0

cell_with_powers : (q M : ℕ) (powers : List ℕ) (cell d X : ℕ) → Powers q M powers → d ≤ M
    → cell_with M powers cell d X ≡ cell * q ^ d + X / q ^ (M - d)
cell_with_powers q M powers cell d X p h =
    ap₂ (λ x y. cell * x + X / y) (p.are d h) (p.are (M - d) (omega arith))

cell_below : (q M cell k d X : ℕ) → 1 ≤ q → d ≤ M → cell < q ^ k → X < q ^ M → cell * q ^ d + X / q ^ (M - d) < q ^ (k + d)
cell_below q M cell k d X some h below within =
    let e : M ≡ d + (M - d) = omega arith in
    let part : X / q ^ (M - d) < q ^ d = div_below X (q ^ (M - d)) (q ^ d) (one-le-pow (M - d) q some)
    (subst (λ n. X < n) (ap (λ n. q ^ n) e ∙ pow-add q d (M - d)) within) in
    omega (arith, mul-add-lt cell (q ^ d) (X / q ^ (M - d)) (q ^ k) below part, pow-add q k d, mul_comm (q ^ k) (q ^ d))

pub divisor_is_some : (q M : ℕ) (powers : List ℕ) (d : ℕ) → Powers q M powers → 0 < get_or powers (M - d) 0
divisor_is_some q M powers d p = rw (p.are (M - d) (omega arith)) (one-le-pow (M - d) q p.some)

pub cell_within_cells : (q M : ℕ) (powers ds : List ℕ) (j cell X : ℕ) → Powers q M powers → total ds ≤ M → j < length ds → X < q ^ M
    → cell < q ^ total (take j ds) → cell_with M powers cell (get_or ds j 0) X < q ^ total (take (j + 1) ds)
cell_within_cells q M powers ds j cell X p h l within below =
    let few : get_or ds j 0 ≤ M = omega (arith, count_within_total ds j) in
    rw (cell_with_powers q M powers cell (get_or ds j 0) X p few, total_more ds j l)
    (cell_below q M cell (total (take j ds)) (get_or ds j 0) X p.some few below within)

pub cell_goes_on : (q M : ℕ) (powers ds xs : List ℕ) (j cell X : ℕ) → Powers q M powers → total ds ≤ M → j < length ds → X ≡ get_or xs j 0
    → cell_of q M (cell_with M powers cell (get_or ds j 0) X) (drop (j + 1) ds) (drop (j + 1) xs) ≡ cell_of q M cell (drop j ds) (drop j xs)
cell_goes_on q M powers ds xs j cell X p h l is =
    let d = get_or ds j 0 in
    let few : d ≤ M = omega (arith, count_within_total ds j) in
    let first : get_or (drop j xs) 0 0 ≡ X = get_or-drop j xs 0 0 ∙ ap (λ k. get_or xs k 0) (add-zero j) ∙ sym is in
    let number : cell_with M powers cell d X ≡ cell * q ^ d + get_or (drop j xs) 0 0 / q ^ (M - d) =
    cell_with_powers q M powers cell d X p few ∙ ap (λ x. cell * q ^ d + x / q ^ (M - d)) (sym first) in
    ap₂ (λ x rest. cell_of q M x (drop (j + 1) ds) rest) number (sym (drop-drop 1 j xs))
    ∙ ap (λ rest. cell_of q M cell rest (drop j xs)) (sym (drop_more ds j 0 l))

-- ---- counting

count_push : {X : Type 0} (P : X → Bool) (xs : List X) (x : X) → count P (xs ++ x ∷ []) ≡ count P xs + cond (P x) 1 0
count_push P [] x = cond_both (P x) 1 0 (λ n. n ≡ 0 + n) (λ e. refl) (λ e. refl)
count_push P (y ∷ xs) x =
    cond_both (P y) (suc (count P xs)) (count P xs) (λ n. cond (P y) (suc (count P (xs ++ x ∷ []))) (count P (xs ++ x ∷ [])) ≡ n + cond (P x) 1 0)
    (λ e. cond-true (P y) (suc (count P (xs ++ x ∷ []))) (count P (xs ++ x ∷ [])) e ∙ omega (arith, count_push P xs x))
    (λ e. cond-false (P y) (suc (count P (xs ++ x ∷ []))) (count P (xs ++ x ∷ [])) e ∙ count_push P xs x)

count_within_length : {X : Type 0} (P : X → Bool) (xs : List X) → count P xs ≤ length xs
count_within_length P [] = omega arith
count_within_length P (x ∷ xs) =
    cond_both (P x) (suc (count P xs)) (count P xs) (λ n. n ≤ suc (length xs)) (λ e. omega (arith, count_within_length P xs))
    (λ e. omega (arith, count_within_length P xs))

-- the points so far are counted, each in its cell
abbrev pub Counted : ℕ → ℕ → ℕ → List ℕ → ℕ → List ℕ → List ℕ → Type 0
Counted q M s counts n points counters =
    (c : ℕ) → c < q ^ total counts → get_or counters c 0 ≡ count (λ p. eqb (cell_of q M 0 counts p) c) (points_of s n points)

-- ---- the points one after the other

-- after i of n points, an iterator over them has the rest
pub record Left (s n i : ℕ) (points : List ℕ) (t : ChunksExact ℕ) : Type 0 where
  pub size : chunks_exact_size t ≡ s
  pub within : i ≤ n
  pub rest : chunks_exact_rest t ≡ drop (i * s) points

-- a call of `next` gives a point
abbrev pub Steps : ChunksExact ℕ → List ℕ → ChunksExact ℕ → Type 0
Steps t point u =
    (chunks_exact_size u ≡ chunks_exact_size t)
    × ((chunks_exact_rest t ≡ point ++ chunks_exact_rest u) × (length point ≡ chunks_exact_size t))
    × (chunks_exact_remainder u ≡ chunks_exact_remainder t)

pub next_length : (s n i : ℕ) (points point : List ℕ) (t u : ChunksExact ℕ) → Left s n i points t → Steps t point u → length point ≡ s
next_length s n i points point t u left step = step.1.1 ∙ left.size

pub next_point : (s n i : ℕ) (points point : List ℕ) (t u : ChunksExact ℕ) → Left s n i points t → Steps t point u
    → point ≡ take s (drop (i * s) points)
next_point s n i points point t u left step =
    sym (take_at point (chunks_exact_rest u) s (next_length s n i points point t u left step)) ∙ ap (take s) (sym step.1.0 ∙ left.rest)

pub left_more : (s n i : ℕ) (points point : List ℕ) (t u : ChunksExact ℕ) → 1 ≤ s → length points ≡ n * s → Left s n i points t
    → Steps t point u → Left s n (i + 1) points u
left_more s n i points point t u some all left step =
    let later = chunks_exact_rest u in
    let size = next_length s n i points point t u left step in
    let more : i < n = lt_of_mul-lt-mul_right s {m = i} {n = n}
    (omega (arith, size, length-drop (i * s) points, length-append point later, ap length left.rest, ap length step.1.0)) in
    record {
      size = step.0 ∙ left.size;
      within = omega arith;
      rest =
          sym (drop_at point later s size) ∙ ap (drop s) (sym step.1.0 ∙ left.rest) ∙ drop-drop s (i * s) points
          ∙ ap (λ k. drop k points) (sym (suc-mul i s) ∙ ap (λ k. k * s) (sym (add-one i)));
    }

pub none_left : (s n i : ℕ) (points : List ℕ) (t : ChunksExact ℕ) → length points ≡ n * s → Left s n i points t
    → length (chunks_exact_rest t) < chunks_exact_size t → i ≡ n
none_left s n i points t all left short =
    ⊎_elim (λ e. e)
    (λ ne. let before : i < n = omega (arith, left.within) in
    let room : i * s + s ≤ n * s = rw (← suc-mul i s) (mul-le-mul_right {m = suc i} {n = n} s before) in
    omega (arith, left.size, ap length left.rest, length-drop (i * s) points)) (cases_eq i n)

-- a counter is at most the number of points
pub counter_within_points : (q M s : ℕ) (counts : List ℕ) (n : ℕ) (points counters : List ℕ) (c : ℕ) → c < q ^ total counts
    → Counted q M s counts n points counters → get_or counters c 0 ≤ n
counter_within_points q M s counts n points counters c h counted =
    rw (counted c h)
    (subst (λ k. count (λ p. eqb (cell_of q M 0 counts p) c) (points_of s n points) ≤ k)
    (length-map-range_with_len (λ i. take s (drop (i * s) points)) 0 n)
    (count_within_length (λ p. eqb (cell_of q M 0 counts p) c) (points_of s n points)))

pub counted_more : (q M s : ℕ) (counts : List ℕ) (n : ℕ) (points point counters : List ℕ) (cell : ℕ) → cell < length counters
    → cell ≡ cell_of q M 0 counts point → point ≡ take s (drop (n * s) points) → Counted q M s counts n points counters
    → Counted q M s counts (n + 1) points (set counters cell (get_or counters cell 0 + 1))
counted_more q M s counts n points point counters cell room told next before c h =
    let is = told ∙ ap (cell_of q M 0 counts) next in
    let x = take s (drop (n * s) points) in
    let P : List ℕ → Bool = λ p. eqb (cell_of q M 0 counts p) c in
    let more : count P (points_of s (n + 1) points) ≡ count P (points_of s n points) + cond (P x) 1 0 =
    ap (count P) (map-range_with_len_more (λ i. take s (drop (i * s) points)) 0 n n (omega arith))
    ∙ count_push P (points_of s n points) x in
    ⊎_elim
    (λ e. subst (λ i. get_or (set counters cell (get_or counters cell 0 + 1)) i 0 ≡ get_or counters i 0 + 1) (sym e)
    (get_or-set_same counters cell (get_or counters cell 0 + 1) 0 room)
    ∙ ap₂ (λ a b. a + b) (before c h) (sym (cond-true (P x) 1 0 (eq-eqb _ c (sym is ∙ sym e))))
    ∙ sym more)
    (λ ne. get_or-set_other counters cell c (get_or counters cell 0 + 1) 0 ne ∙ before c h ∙ sym (add-zero _)
    ∙ ap (λ y. count P (points_of s n points) + y) (sym (cond-false (P x) 1 0 (ne_eqb _ c (λ e. ne (sym e ∙ sym is)))))
    ∙ sym more) (cases_eq c cell)
