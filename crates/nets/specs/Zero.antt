-- Tables whose blocks are nets with t = 0, and how the digits of Sobol' tables follow from their polynomials.
-- Assumes nothing.
use Rattle.std.specs.Prelude.{◌≡◌, ℕ, suc, ◌-◌, ◌/◌, ◌<◌, ◌≤◌, cond, List, length, nat_lt}
use Rattle.base.specs.Blocks.{BlockWithin, Fit}
use Rattle.base.specs.Fields.{FieldLaws, FieldModel, sum_over}
use Rattle.base.specs.Independence.{AllPass}
use Rattle.base.specs.Orders.{OrderModel}
use Rattle.base.specs.Scramblers.{ScramblerModel}
use Rattle.base.specs.Tables.{SameTable, TableModel}
use Rattle.base.specs.Tests.{Clean}
use Rattle.tables.specs.Directions.{coefficient}
use Rattle.tables.specs.Faure.{faure_table}
use Rattle.tables.specs.Record.{degree, polynomial}
use Rattle.tables.specs.Sobol.{record_of, sobol_table, sobol_tests}
use Rattle.nets.specs.Theorem.{BlockNet}

-- every split of m passes, for every m from 0 to M
abbrev pub EverySplitPasses : FieldModel → TableModel → Type 0
EverySplitPasses F T = (m : ℕ) → m ≤ T.digits → AllPass F T m 0

-- every block of q^m points is a (0, m, s)-net, for every m from 0 to M, in every order and under every scrambler
abbrev pub EveryBlockIsZeroNet : FieldModel → TableModel → Type 0
EveryBlockIsZeroNet F T =
    (O : OrderModel) (S : ScramblerModel) → Fit O S T → (m b : ℕ) → BlockWithin T m b → BlockNet F O S T m b 0

-- for every field, every M and every s of at most q: the Faure table has t = 0 throughout
abbrev pub FaureTablesHaveTZero : Type 0
FaureTablesHaveTZero =
    (F : FieldModel) → FieldLaws F → (M s : ℕ) → s ≤ F.q → (T : TableModel) → SameTable T (faure_table F M s)
    → EverySplitPasses F T × EveryBlockIsZeroNet F T

-- for every accepted direction list of one record and every M: its Sobol' table has t = 0 throughout, over every field of two
abbrev pub SingleSobolTablesHaveTZero : Type 0
SingleSobolTablesHaveTZero =
    (F : FieldModel) → FieldLaws F → F.q ≡ 2 → (list : List ℕ) (M : ℕ) → Clean (sobol_tests list M) → length list / 20 ≡ 1
    → (T : TableModel) → SameTable T (sobol_table list M) → EverySplitPasses F T × EveryBlockIsZeroNet F T

-- the digit d rows up, and 0 where there is no such row
abbrev pub digit_above : (ℕ → ℕ → ℕ) → ℕ → ℕ → ℕ → ℕ
digit_above rows d k l = cond (nat_lt d k) (rows (k - d) l) 0

-- the digits of a coordinate, by row from 1 and column from 0, follow from a polynomial p of degree d over a field of two: 1 on
-- the diagonal, 0 below it, and from column d on each digit of row k is the sum of the d digits before it in the row, times the
-- coefficients of p from that of x^(d-1) down, and of the digit in row k - d and column l - d
pub record FollowsPolynomial (F : FieldModel) (d p M : ℕ) (rows : ℕ → ℕ → ℕ) : Type 0 where
  pub diagonal : (l : ℕ) → l < M → rows (suc l) l ≡ 1
  pub below : (k l : ℕ) → suc l < k → k ≤ M → rows k l ≡ 0
  pub follows : (k l : ℕ) → 1 ≤ k → k ≤ M → d ≤ l → l < M
      → rows k l ≡ F.sum (sum_over F d (λ r. F.product (coefficient p (d - suc r)) (rows k (l - suc r)))) (digit_above rows d k (l - d))

-- for every accepted direction list, the digits of each coordinate follow from its record's polynomial
abbrev pub SobolTablesFollowPolynomials : Type 0
SobolTablesFollowPolynomials =
    (F : FieldModel) → FieldLaws F → F.q ≡ 2 → (list : List ℕ) (M : ℕ) → Clean (sobol_tests list M)
    → (T : TableModel) → SameTable T (sobol_table list M) → (j : ℕ) → j < length list / 20
    → FollowsPolynomial F (degree (record_of list j)) (polynomial (record_of list j)) M (T.entry j)
