-- Rows of digits over a field, and the systems of equations that they make. Assumes nothing.
use Rattle.std.specs.Prelude.{◌≡◌, ℕ, zero, suc, ◌-◌, ◌^◌, ◌<◌, ◌≤◌, Bool, true, ◌&&◌, nat_eq}
use Rattle.std.specs.List.{range_with_len}
use Rattle.base.specs.Fields.{FieldLaws, FieldModel, sum_over}
use Rattle.base.specs.Independence.{Independent}
use Rattle.base.specs.Nets.{count}
use Rattle.base.specs.Orders.{digit}

-- D rows of m columns hold digits: the digit of row i in column l is below q
abbrev pub Rows : FieldModel → ℕ → ℕ → (ℕ → ℕ → ℕ) → Type 0
Rows F D m A = (i l : ℕ) → i < D → l < m → A i l < F.q

-- the left side of a row's equation in the unknowns x 0 to x (m - 1)
abbrev pub left_side : FieldModel → ℕ → (ℕ → ℕ) → (ℕ → ℕ) → ℕ
left_side F m row x = sum_over F m (λ l. F.product (row l) (x l))

-- all numbers below n pass
abbrev pub all_below : ℕ → (ℕ → Bool) → Bool
all_below zero passes = true
all_below (suc n) passes = all_below n passes && passes n

-- the unknowns x solve the D equations with the right sides y
abbrev pub solves : FieldModel → ℕ → ℕ → (ℕ → ℕ → ℕ) → (ℕ → ℕ) → (ℕ → ℕ) → Bool
solves F D m A y x = all_below D (λ i. nat_eq (left_side F m (A i) x) (y i))

-- how many of the q^m vectors of m digits solve a system; the vectors are the digits of the numbers below q^m
abbrev pub solutions : FieldModel → ℕ → ℕ → (ℕ → ℕ → ℕ) → (ℕ → ℕ) → ℕ
solutions F D m A y = count (λ n. solves F D m A y (digit F.q n)) (range_with_len 0 (F.q ^ m))

-- D independent rows of m columns: D is at most m, and each right side has exactly q^(m-D) solutions. Dependent rows: some
-- right side has none
abbrev pub SolutionsOfRows : Type 0
SolutionsOfRows =
    (F : FieldModel) → FieldLaws F → (D m : ℕ) (A : ℕ → ℕ → ℕ) → Rows F D m A
    → (Independent F D m A
    → (D ≤ m) × ((y : ℕ → ℕ) → ((i : ℕ) → i < D → y i < F.q) → solutions F D m A y ≡ F.q ^ (m - D)))
    × ((Independent F D m A → ⊥) → (y : ℕ → ℕ) × ((i : ℕ) → i < D → y i < F.q) × (solutions F D m A y ≡ 0))
