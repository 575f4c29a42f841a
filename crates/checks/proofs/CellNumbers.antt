-- Cells by their numbers: each number below q^total is the number of just one cell of a split, and a point lies in a cell
-- exactly if the point's cell has that cell's number. So a split is even exactly if each number counts h points. Assumes nothing.
use Rattle.std.proofs.Common.{◌≡◌, ℕ, suc, ◌+◌, ◌-◌, ◌*◌, ◌/◌, ◌%◌, ◌^◌, ◌<◌, ◌≤◌, Bool, cond, eqb, List, [], ◌∷◌, length, get_or, take, drop, Decides, sym, refl, ap, ◌∙◌, subst, ⊎_elim, mod-lt, mul_comm, add-sub_of_le, div-add-mod', div-one, arith}
use native.Mathlib.Nat.{div-div-eq-div-mul, div-eq_of_lt, lt-div-mul-add, min-le_left, one-le-pow, pow-zero}
use Rattle.std.proofs.lemmas.Nat.{div_below, div-mul-add, pow-add}
use Rattle.std.proofs.ByRecursion.{All-from_get_or, All-map, All-weaker}
use Rattle.std.proofs.lemmas.List.{get_or-drop, get_or_past, get_or-take, length-take}
use Rattle.std.proofs.lemmas.Bool.{cases_lt}
use Rattle.std.proofs.lemmas.Bool.Decides.{Decides-and, Decides-eqb, Decides-like, same_from_decides}
use Rattle.std.specs.List.{range_with_len, AllByRecursion}
use Rattle.base.specs.Digits.{AllDigits}
use Rattle.base.specs.Nets.{Cell, Even, count, in_cell, total}
use Rattle.checks.specs.Counting.{cell_of, points_of}

-- each numerator of a point is below Q
abbrev pub Within : ℕ → List ℕ → Type 0
Within Q point = (j : ℕ) → get_or point j 0 < Q

-- the number of a cell, after acc
abbrev number_of : ℕ → ℕ → List ℕ → List ℕ → ℕ
number_of q acc [] cell = acc
number_of q acc (d ∷ ds) cell = number_of q (acc * q ^ d + get_or cell 0 0) ds (drop 1 cell)

-- the cell that a point lies in
abbrev cell_around : ℕ → ℕ → List ℕ → List ℕ → List ℕ
cell_around q M [] point = []
cell_around q M (d ∷ ds) point = get_or point 0 0 / q ^ (M - d) ∷ cell_around q M ds (drop 1 point)

-- the cell with the number c
abbrev cell_with : ℕ → List ℕ → ℕ → List ℕ
cell_with q [] c = []
cell_with q (d ∷ ds) c = c / q ^ total ds % q ^ d ∷ cell_with q ds c

pub power_positive : (q k : ℕ) → 2 ≤ q → 0 < q ^ k
power_positive q k base = one-le-pow k q (omega arith)

quotient_by_none : (q n : ℕ) → n / q ^ 0 ≡ n
quotient_by_none q n = ap (λ k. n / k) (pow-zero q) ∙ div-one n

quotient_by_parts : (q d t n : ℕ) → n / q ^ (d + t) ≡ n / q ^ t / q ^ d
quotient_by_parts q d t n = ap (λ k. n / k) (pow-add q d t ∙ mul_comm (q ^ d) (q ^ t)) ∙ sym (div-div-eq-div-mul n (q ^ t) (q ^ d))

cell_of_is_number : (q M acc : ℕ) (counts point : List ℕ) → cell_of q M acc counts point ≡ number_of q acc counts (cell_around q M counts point)
cell_of_is_number q M acc [] point = refl
cell_of_is_number q M acc (d ∷ ds) point = cell_of_is_number q M (acc * q ^ d + get_or point 0 0 / q ^ (M - d)) ds (drop 1 point)

number_quotient : (q acc : ℕ) (counts cell : List ℕ) → Cell q counts cell → number_of q acc counts cell / q ^ total counts ≡ acc
number_quotient q acc [] [] is = quotient_by_none q acc
number_quotient q acc [] (v ∷ vs) is = absurd is
number_quotient q acc (d ∷ ds) [] is = absurd is
number_quotient q acc (d ∷ ds) (v ∷ vs) is =
    quotient_by_parts q d (total ds) (number_of q (acc * q ^ d + v) ds vs)
    ∙ ap (λ n. n / q ^ d) (number_quotient q (acc * q ^ d + v) ds vs is.1) ∙ div-mul-add acc (q ^ d) v is.0

number_below : (q : ℕ) (counts cell : List ℕ) → 2 ≤ q → Cell q counts cell → number_of q 0 counts cell < q ^ total counts
number_below q counts cell base is =
    let t = q ^ total counts in
    let n = number_of q 0 counts cell in
    let positive : 0 < t = power_positive q (total counts) base in
    let below : n < 0 * t + t = subst (λ a. n < a * t + t) (number_quotient q 0 counts cell is) (lt-div-mul-add positive) in
    omega arith

cells_by_numbers : (q acc : ℕ) (counts a b : List ℕ) → Cell q counts a → Cell q counts b
    → number_of q acc counts a ≡ number_of q acc counts b → a ≡ b
cells_by_numbers q acc [] [] [] is_a is_b e = refl
cells_by_numbers q acc [] [] (v ∷ vs) is_a is_b e = absurd is_b
cells_by_numbers q acc [] (u ∷ us) b is_a is_b e = absurd is_a
cells_by_numbers q acc (d ∷ ds) [] b is_a is_b e = absurd is_a
cells_by_numbers q acc (d ∷ ds) (u ∷ us) [] is_a is_b e = absurd is_b
cells_by_numbers q acc (d ∷ ds) (u ∷ us) (v ∷ vs) is_a is_b e =
    let first : acc * q ^ d + u ≡ acc * q ^ d + v = sym (number_quotient q (acc * q ^ d + u) ds us is_a.1) ∙ ap (λ n. n / q ^ total ds) e ∙ number_quotient q (acc * q ^ d + v) ds vs is_b.1 in
    let same : u ≡ v = omega arith in
    let rest : us ≡ vs = cells_by_numbers q (acc * q ^ d + v) ds us vs is_a.1 is_b.1 (subst (λ n. number_of q n ds us ≡ number_of q (acc * q ^ d + v) ds vs) first e) in
    cc

cell_with_is_cell : (q : ℕ) (counts : List ℕ) (c : ℕ) → 2 ≤ q → Cell q counts (cell_with q counts c)
cell_with_is_cell q [] c base = tt
cell_with_is_cell q (d ∷ ds) c base = (mod-lt (c / q ^ total ds) (power_positive q d base), cell_with_is_cell q ds c base)

number_of_cell_with : (q acc : ℕ) (counts : List ℕ) (c : ℕ) → c / q ^ total counts ≡ acc → number_of q acc counts (cell_with q counts c) ≡ c
number_of_cell_with q acc [] c e = sym e ∙ quotient_by_none q c
number_of_cell_with q acc (d ∷ ds) c e =
    let n = c / q ^ total ds in
    let high : n / q ^ d ≡ acc = sym (quotient_by_parts q d (total ds) c) ∙ e in
    number_of_cell_with q (acc * q ^ d + n % q ^ d) ds c (sym (subst (λ a. a * q ^ d + n % q ^ d ≡ n) high (div-add-mod' n (q ^ d))))

digit_below : (q M d X : ℕ) → 2 ≤ q → d ≤ M → X < q ^ M → X / q ^ (M - d) < q ^ d
digit_below q M d X base fits below =
    div_below X (q ^ (M - d)) (q ^ d) (power_positive q (M - d) base)
    (subst (λ n. X < n) (ap (λ k. q ^ k) (sym (add-sub_of_le fits)) ∙ pow-add q d (M - d)) below)

within_drop : (Q n : ℕ) (xs : List ℕ) → Within Q xs → Within Q (drop n xs)
within_drop Q n xs within j = subst (λ x. x < Q) (sym (get_or-drop n xs j 0)) (within (n + j))

cell_around_is_cell : (q M : ℕ) (counts point : List ℕ) → 2 ≤ q → total counts ≤ M → Within (q ^ M) point → Cell q counts (cell_around q M counts point)
cell_around_is_cell q M [] point base fits within = tt
cell_around_is_cell q M (d ∷ ds) point base fits within = (
  digit_below q M d (get_or point 0 0) base (omega arith) (within 0),
  cell_around_is_cell q M ds (drop 1 point) base (omega arith) (within_drop (q ^ M) 1 point within),
)

decides_in_cell : (q M : ℕ) (counts cell point : List ℕ) → Cell q counts cell → Decides (in_cell q M counts cell point) (cell_around q M counts point ≡ cell)
decides_in_cell q M [] [] point is = (λ _. refl, λ _. refl)
decides_in_cell q M [] (v ∷ vs) point is = absurd is
decides_in_cell q M (d ∷ ds) [] point is = absurd is
decides_in_cell q M (d ∷ ds) (v ∷ vs) point is =
    let x = get_or point 0 0 / q ^ (M - d) in
    let xs = cell_around q M ds (drop 1 point) in
    Decides-like (in_cell q M (d ∷ ds) (v ∷ vs) point) (both x v xs vs) (parts x v xs vs)
    (Decides-and (eqb x v) (in_cell q M ds vs (drop 1 point)) (Decides-eqb x v) (decides_in_cell q M ds vs (drop 1 point) is.1))
  where
    both : (x v : ℕ) (xs vs : List ℕ) → (x ≡ v) × (xs ≡ vs) → x ∷ xs ≡ v ∷ vs
    both x v xs vs h = let e = h.0 in let es = h.1 in cc

    parts : (x v : ℕ) (xs vs : List ℕ) → x ∷ xs ≡ v ∷ vs → (x ≡ v) × (xs ≡ vs)
    parts x v xs vs e = (cc, cc)

in_cell_by_number : (q M : ℕ) (counts cell point : List ℕ) → 2 ≤ q → total counts ≤ M → Cell q counts cell → Within (q ^ M) point
    → in_cell q M counts cell point ≡ eqb (cell_of q M 0 counts point) (number_of q 0 counts cell)
in_cell_by_number q M counts cell point base fits is within =
    let here = cell_around q M counts point in
    let around = cell_around_is_cell q M counts point base fits within in
    let named = cell_of_is_number q M 0 counts point in
    let n = number_of q 0 counts cell in
    same_from_decides (in_cell q M counts cell point) (eqb (cell_of q M 0 counts point) n) (decides_in_cell q M counts cell point is)
    (Decides-like (eqb (cell_of q M 0 counts point) n) (λ e. cells_by_numbers q 0 counts here cell around is (sym named ∙ e))
    (λ e. named ∙ ap (λ a. number_of q 0 counts a) e) (Decides-eqb (cell_of q M 0 counts point) n))

count_by_same_tests : {X : Type 0} (f g : X → Bool) (xs : List X) → AllByRecursion (λ x. f x ≡ g x) xs → count f xs ≡ count g xs
count_by_same_tests f g [] same = refl
count_by_same_tests f g (x ∷ xs) same =
    ap (λ b. cond b (suc (count f xs)) (count f xs)) same.0
    ∙ ap (λ n. cond (g x) (suc n) n) (count_by_same_tests f g xs same.1)

count_by_number : (q M : ℕ) (counts cell : List ℕ) (points : List (List ℕ)) → 2 ≤ q → total counts ≤ M → AllByRecursion (Within (q ^ M)) points → Cell q counts cell
    → count (in_cell q M counts cell) points ≡ count (λ p. eqb (cell_of q M 0 counts p) (number_of q 0 counts cell)) points
count_by_number q M counts cell points base fits within is =
    count_by_same_tests (in_cell q M counts cell) (λ p. eqb (cell_of q M 0 counts p) (number_of q 0 counts cell)) points
    (All-weaker (Within (q ^ M)) (λ p. in_cell q M counts cell p ≡ eqb (cell_of q M 0 counts p) (number_of q 0 counts cell))
    (λ p w. in_cell_by_number q M counts cell p base fits is w) points within)

-- a split is even exactly if each number of a cell counts h points
pub even_by_numbers : (q M h : ℕ) (counts : List ℕ) (points : List (List ℕ)) → 2 ≤ q → total counts ≤ M → AllByRecursion (Within (q ^ M)) points
    → (((c : ℕ) → c < q ^ total counts → count (λ p. eqb (cell_of q M 0 counts p) c) points ≡ h) → Even q M h points counts)
    × (Even q M h points counts → (c : ℕ) → c < q ^ total counts → count (λ p. eqb (cell_of q M 0 counts p) c) points ≡ h)
even_by_numbers q M h counts points base fits within = (
  λ all cell is.
      count_by_number q M counts cell points base fits within is ∙ all (number_of q 0 counts cell) (number_below q counts cell base is),
  λ even c below.
      let cell = cell_with q counts c in
      let is = cell_with_is_cell q counts c base in
      subst (λ n. count (λ p. eqb (cell_of q M 0 counts p) n) points ≡ h) (number_of_cell_with q 0 counts c (div-eq_of_lt below))
      (sym (count_by_number q M counts cell points base fits within is) ∙ even cell is),
)

get_or_below : (Q : ℕ) (xs : List ℕ) → 0 < Q → AllDigits Q xs → Within Q xs
get_or_below Q xs some digits i =
    ⊎_elim (λ inside. digits i inside) (λ past. subst (λ x. x < Q) (sym (get_or_past xs i 0 past)) some) (cases_lt i (length xs))

within_take : (Q n : ℕ) (xs : List ℕ) → 0 < Q → Within Q xs → Within Q (take n xs)
within_take Q n xs some within j =
    ⊎_elim (λ inside. subst (λ x. x < Q) (sym (get_or-take n xs j 0 inside)) (within j))
    (λ past. subst (λ x. x < Q) (sym (get_or_past (take n xs) j 0 (omega (arith, length-take n xs, min-le_left n (length xs))))) some) (cases_lt j n)

-- the points of a list of numerators below Q
pub points_within : (Q s n : ℕ) (xs : List ℕ) → 0 < Q → AllDigits Q xs → AllByRecursion (Within Q) (points_of s n xs)
points_within Q s n xs some digits =
    All-map (Within Q) (λ i. take s (drop (i * s) xs)) (range_with_len 0 n)
    (All-from_get_or (λ i. Within Q (take s (drop (i * s) xs))) (range_with_len 0 n) 0
    (λ k _. within_take Q s (drop (get_or (range_with_len 0 n) k 0 * s) xs) some
    (within_drop Q (get_or (range_with_len 0 n) k 0 * s) xs (get_or_below Q xs some digits))))
