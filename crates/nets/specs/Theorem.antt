-- The theorem of blocks, and the least t of a block. Assumes nothing.
use Rattle.std.specs.Prelude.{◌≡◌, ℕ, ◌≤◌}
use Rattle.base.specs.Blocks.{BlockWithin, Fit, TableOver, block_points}
use Rattle.base.specs.Fields.{FieldModel}
use Rattle.base.specs.Independence.{AllPass, FirstPassing}
use Rattle.base.specs.Nets.{Least, Net}
use Rattle.base.specs.Orders.{OrderModel}
use Rattle.base.specs.Scramblers.{ScramblerModel}
use Rattle.base.specs.Tables.{TableModel}

-- the points of block b form a (t, m, s)-net
abbrev pub BlockNet : FieldModel → OrderModel → ScramblerModel → TableModel → ℕ → ℕ → ℕ → Type 0
BlockNet F O S T m b t = Net T.q T.digits T.coordinates t m (block_points F O S T m b)

-- for every field, order, scrambler and table that belong together, every block of q^m points and every t from 0 to m: the
-- points form a (t, m, s)-net exactly if every split of m - t passes
abbrev pub BlockIsNetExactlyWhenSplitsPass : Type 0
BlockIsNetExactlyWhenSplitsPass =
    (F : FieldModel) (O : OrderModel) (S : ScramblerModel) (T : TableModel) → TableOver F T → Fit O S T
    → (m b t : ℕ) → BlockWithin T m b → t ≤ m
    → (BlockNet F O S T m b t → AllPass F T m t) × (AllPass F T m t → BlockNet F O S T m b t)

-- for every table over a field and every m there is a first t, from 0 up, whose splits all pass, and only one; and it is the
-- least t for which a block of q^m points is a net: for every block, in every order, under every scrambler
abbrev pub LeastTIsTheFirstThatPasses : Type 0
LeastTIsTheFirstThatPasses =
    (F : FieldModel) (T : TableModel) → TableOver F T → (m : ℕ) → m ≤ T.digits
    → ((t : ℕ) × FirstPassing F T m t)
    × ((t u : ℕ) → FirstPassing F T m t → FirstPassing F T m u → t ≡ u)
    × ((t : ℕ) → FirstPassing F T m t → (O : OrderModel) (S : ScramblerModel) → Fit O S T → (b : ℕ) → BlockWithin T m b
    → Least (BlockNet F O S T m b) t)
