-- The numbers of solutions, counted as the definition does: over the list of the numbers below q^m. Assumes nothing.
use Rattle.std.proofs.Common.{◌≡◌, ℕ, zero, suc, ◌+◌, ◌^◌, Bool, cond, sym, refl, ap, ◌∙◌, ap₂, add-zero, zero-add, arith}
use Rattle.std.proofs.lemmas.Bool.{cond_both, cond-false, cond-true}
use Rattle.std.specs.List.{range_with_len}
use Rattle.base.specs.Nets.{count}
use Rattle.base.specs.Orders.{digit}
use Rattle.nets.specs.Rows.{SolutionsOfRows, solutions, solves}
use Rattle.nets.proofs.Counting.{sum_joined, sum_same, sum_below}
use Rattle.nets.proofs.Dependence.{unsolved}
use Rattle.nets.proofs.Systems.{counts, solved}

-- a count over the numbers from a on is a sum
pub count_is_sum : (P : ℕ → Bool) (a n : ℕ) → count P (range_with_len a n) ≡ sum_below n (λ i. cond (P (a + i)) 1 0)
count_is_sum P a zero = refl
count_is_sum P a (suc n) =
    let later = count P (range_with_len (a + 1) n) in
    let g : ℕ → ℕ = λ i. cond (P (a + i)) 1 0 in
    let moved : (i : ℕ) → a + 1 + i ≡ a + (1 + i) = λ i. omega arith in
    let size : 1 + n ≡ suc n = omega arith in
    let head : cond (P a) (suc later) later ≡ cond (P a) 1 0 + later = cond_both (P a) (suc later) later (λ z. z ≡ cond (P a) 1 0 + later)
    (λ e. omega (arith, cond-true {A = ℕ} (P a) 1 0 e)) (λ e. omega (arith, cond-false {A = ℕ} (P a) 1 0 e)) in
    let tail : later ≡ sum_below n (λ i. g (1 + i)) = count_is_sum P (a + 1) n
    ∙ sum_same n (λ i. cond (P (a + 1 + i)) 1 0) (λ i. g (1 + i)) (λ i h. ap (λ k. cond (P k) 1 0) (moved i)) in
    head ∙ ap₂ ◌+◌ (ap (λ k. cond (P k) 1 0) (sym (add-zero a))) tail ∙ omega (arith, sum_joined 1 n g) ∙ ap (λ k. sum_below k g) size

pub solutions_of_rows : SolutionsOfRows
solutions_of_rows F laws D m A rows = (
  (λ free. let told = counts F laws m D A rows free in (told.0, λ y ys. counted y ∙ told.1 y ys)),
  (λ dependent. let found = unsolved F laws D m A rows dependent in (found.0, found.1, counted found.0 ∙ found.2)),
)
  where
    counted : (y : ℕ → ℕ) → solutions F D m A y ≡ sum_below (F.q ^ m) (solved F laws D m A y)
    counted y =
        count_is_sum (λ n. solves F D m A y (digit F.q n)) 0 (F.q ^ m)
        ∙ sum_same (F.q ^ m) (λ n. solved F laws D m A y (0 + n)) (solved F laws D m A y) (λ n h. ap (solved F laws D m A y) (zero-add n))
