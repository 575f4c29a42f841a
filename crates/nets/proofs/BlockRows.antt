-- A row at the indexes of a block: its left side in the m low digits, plus a sum over the other columns that is the same in the
-- whole block. Assumes nothing.
use Rattle.std.proofs.Common.{◌≡◌, ℕ, ◌+◌, ◌-◌, ◌*◌, ◌^◌, ◌<◌, ◌≤◌, ap, ◌∙◌, ap₂, arith}
use Rattle.base.proofs.FieldAlgebra.{sum_over_same, zero_digit}
use Rattle.base.specs.Fields.{FieldLaws, FieldModel, sum_over}
use Rattle.base.specs.Orders.{digit}
use Rattle.nets.specs.Rows.{left_side}
use Rattle.nets.proofs.FieldSums.{sum_over_joined}
use Rattle.nets.proofs.Numbers.{digit_above_lem, digit_under}
use Rattle.nets.proofs.Systems.{digit_below}

-- the sum over the columns from m on, at the indexes of block c
abbrev pub high_side : FieldModel → ℕ → ℕ → (ℕ → ℕ) → ℕ → ℕ
high_side F M m row c = sum_over F (M - m) (λ i. F.product (row (m + i)) (digit F.q c i))

pub block_row : (F : FieldModel) → FieldLaws F → (M m c r : ℕ) (row : ℕ → ℕ) → m ≤ M → r < F.q ^ m → ((l : ℕ) → l < M → row l < F.q)
    → sum_over F M (λ l. F.product (row l) (digit F.q (c * F.q ^ m + r) l)) ≡ F.sum (left_side F m row (digit F.q r)) (high_side F M m row c)
block_row F laws M m c r row within h digits =
    let n = c * F.q ^ m + r in
    let size : M ≡ m + (M - m) = omega (arith, within) in
    ap (λ k. sum_over F k (λ l. F.product (row l) (digit F.q n l))) size
    ∙ sum_over_joined F laws m (M - m) (λ l. F.product (row l) (digit F.q n l))
    (λ l k. laws.product_digit (row l) (digit F.q n l) (digits l (omega (arith, k, within))) (digit_below F laws n l))
    ∙ ap₂ F.sum
    (sum_over_same F m (λ l. F.product (row l) (digit F.q n l)) (λ l. F.product (row l) (digit F.q r l))
    (λ l k. ap (F.product (row l)) (digit_under F.q m c r l (zero_digit F laws) k)))
    (sum_over_same F (M - m) (λ i. F.product (row (m + i)) (digit F.q n (m + i))) (λ i. F.product (row (m + i)) (digit F.q c i))
    (λ i k. ap (F.product (row (m + i))) (digit_above_lem F.q m c r i h)))
