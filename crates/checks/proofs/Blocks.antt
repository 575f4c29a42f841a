-- The points of a block form a net for t = m: the only split of 0 has one cell, which holds them all.
-- Assumes nothing.
use Rattle.std.proofs.Common.{◌≡◌, ℕ, suc, ◌+◌, ◌-◌, ◌*◌, ◌/◌, ◌^◌, ◌<◌, Bool, true, eqb, List, [], ◌∷◌, length, get_or, take, drop, sym, refl, ap, ap₂, ◌∙◌, subst, arith}
use native.Mathlib.Nat.{div-eq_of_lt, pow-zero, sub_self}
use Rattle.std.specs.List.{AllByRecursion}
use Rattle.std.proofs.lemmas.List.FromFn.{length-map-range_with_len}
use Rattle.std.proofs.ByRecursion.{All-weaker}
use Rattle.std.proofs.lemmas.List.{get_or-drop}
use Rattle.std.proofs.lemmas.Bool.{and_from, cond-true, eq-eqb}
use Rattle.base.specs.Nets.{Cell, Least, Net, count, in_cell, total}
use Rattle.base.specs.Shapes.{HasShape}
use Rattle.base.specs.declared.limits.Shape.{Shape}
use Rattle.checks.specs.Counting.{points_of}
use Rattle.checks.specs.declared.block.Block.{Block}
use Rattle.checks.proofs.CellNumbers.{Within}

-- every point lies in a cell of the split of 0
in_only_cell : (q M : ℕ) (counts cell point : List ℕ) → total counts ≡ 0 → Cell q counts cell → Within (q ^ M) point
    → in_cell q M counts cell point ≡ true
in_only_cell q M [] cell point none is small = refl
in_only_cell q M (d ∷ ds) [] point none is small = absurd is
in_only_cell q M (d ∷ ds) (v ∷ vs) point none is small =
    let first : d ≡ 0 = omega arith in
    let one : v < q ^ 0 = subst (λ n. v < q ^ n) first is.0 in
    let none_below : v ≡ 0 = omega (arith, pow-zero q) in
    let whole : M - d ≡ M = omega arith in
    and_from (eqb (get_or point 0 0 / q ^ (M - d)) v) (in_cell q M ds vs (drop 1 point))
    (eq-eqb _ _ (ap (λ n. get_or point 0 0 / q ^ n) whole ∙ div-eq_of_lt (small 0) ∙ sym none_below))
    (in_only_cell q M ds vs (drop 1 point) (omega arith) is.1 (λ j. subst (λ x. x < q ^ M) (sym (get_or-drop 1 point j 0)) (small (1 + j))))

count_all : {X : Type 0} (passes : X → Bool) (xs : List X) → AllByRecursion (λ x. passes x ≡ true) xs → count passes xs ≡ length xs
count_all passes [] all = refl
count_all passes (x ∷ xs) all = cond-true (passes x) _ _ all.0 ∙ ap suc (count_all passes xs all.1)

pub net_for_m : (q M s m : ℕ) (points : List (List ℕ)) → length points ≡ q ^ m → AllByRecursion (Within (q ^ M)) points → Net q M s m m points
net_for_m q M s m points size small =
    record {
      size = size;
      within = omega arith;
      even = λ counts split cell is.
          count_all (in_cell q M counts cell) points
          (All-weaker (Within (q ^ M)) (λ p. in_cell q M counts cell p ≡ true)
          (λ p. in_only_cell q M counts cell p (split.1 ∙ sub_self m) is) points small)
          ∙ size;
    }

pub length_points : (s n : ℕ) (numerators : List ℕ) → length (points_of s n numerators) ≡ n
length_points s n numerators = length-map-range_with_len (λ i. take s (drop (i * s) numerators)) 0 n

-- what was found of a block, told of the numbers that it was made from
pub found_of_block : (x : Shape) (q M s m t : ℕ) (points : List ℕ) (b : Block) → HasShape q M s x → b.grid.shape ≡ x → b.m ≡ m → b.points.now ≡ points
    → Least (λ u. Net b.grid.shape.q b.grid.shape.digits b.grid.shape.coordinates u b.m (points_of b.grid.shape.coordinates b.size b.points.now)) t
    → (b.size ≡ q ^ m) × Least (λ u. Net q M s u m (points_of s (q ^ m) points)) t
found_of_block x q M s m t points b has shape m_is points_are least =
    let q_is : b.grid.shape.q ≡ q = ap (λ y. y.q) shape ∙ has.q_is in
    let M_is : b.grid.shape.digits ≡ M = ap (λ y. y.digits) shape ∙ has.digits_are in
    let s_is : b.grid.shape.coordinates ≡ s = ap (λ y. y.coordinates) shape ∙ has.coordinates_are in
    let size : b.size ≡ q ^ m = b.power ∙ ap₂ (λ x y. x ^ y) q_is m_is in (
      size,
      rw (← q_is, ← M_is, ← s_is, ← m_is, ← points_are, ← b.power) least,
    )
