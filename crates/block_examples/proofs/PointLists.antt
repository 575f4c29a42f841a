-- Points of s numerators each, one after the other in a list, and one more after them. Assumes nothing.
use Rattle.std.proofs.Common.{◌≡◌, ℕ, suc, ◌+◌, ◌*◌, ◌<◌, ◌≤◌, List, ◌++◌, length, take, drop, sym, ap, ◌∙◌, mul-le-mul_right, suc-mul, arith, length-append, length-drop}
use Rattle.std.proofs.Math.Seq.{drop-append_seam}
use Rattle.std.proofs.lemmas.List.{drop-append-le, take-append-le, take_all}

-- point i of n points ends within them
point_within : (s i n : ℕ) → i < n → i * s + s ≤ n * s
point_within s i n h = omega (arith, suc-mul i s, mul-le-mul_right {m = suc i} {n = n} s h)

-- point i of a list
abbrev pub point_at : ℕ → List ℕ → ℕ → List ℕ
point_at s xs i = take s (drop (i * s) xs)

module _ (s n : ℕ) (xs ys : List ℕ) (before : length xs ≡ n * s) (size : length ys ≡ s) where
  pub length_more : length (xs ++ ys) ≡ (n + 1) * s
  length_more = omega (arith, length-append xs ys, suc-mul n s)

  -- a point before is as it was
  pub point_kept : (k : ℕ) → k < n → point_at s (xs ++ ys) k ≡ point_at s xs k
  point_kept k h =
      let inside = point_within s k n h in
      ap (take s) (drop-append-le (k * s) xs ys (omega (arith, inside, before)))
      ∙ take-append-le s (drop (k * s) xs) ys (omega (arith, inside, before, length-drop (k * s) xs))

  -- the point after them
  pub point_added : point_at s (xs ++ ys) n ≡ ys
  point_added =
      ap (λ i. take s (drop i (xs ++ ys))) (sym before)
      ∙ ap (take s) (drop-append_seam xs ys) ∙ take_all s ys (omega (arith, size))
