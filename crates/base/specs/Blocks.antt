-- Blocks of points, and the parts that make them. Assumes nothing.
use Rattle.std.specs.Prelude.{◌≡◌, ℕ, ◌+◌, ◌*◌, ◌^◌, ◌<◌, ◌≤◌, List, map}
use Rattle.std.specs.List.{range_with_len}
use Rattle.base.specs.Fields.{FieldLaws, FieldModel}
use Rattle.base.specs.Orders.{OrderLaws, OrderModel}
use Rattle.base.specs.Points.{point}
use Rattle.base.specs.Scramblers.{ScramblerLaws, ScramblerModel}
use Rattle.base.specs.Tables.{Inside, TableModel}

-- a table over a field: the field keeps its laws, has the table's q, and the table's digits are below q
pub record TableOver (F : FieldModel) (T : TableModel) : Type 0 where
  pub laws : FieldLaws F
  pub q : F.q ≡ T.q
  pub digits : (j k l : ℕ) → Inside T.digits T.coordinates j k l → T.entry j k l < T.q

-- an order and a scrambler fit a table: they keep their laws, and have its q, M and s
pub record Fit (O : OrderModel) (S : ScramblerModel) (T : TableModel) : Type 0 where
  pub order : OrderLaws O
  pub order_q : O.q ≡ T.q
  pub order_digits : O.digits ≡ T.digits
  pub scrambler : ScramblerLaws S
  pub scrambler_q : S.q ≡ T.q
  pub scrambler_digits : S.digits ≡ T.digits
  pub scrambler_coordinates : S.coordinates ≡ T.coordinates

-- the q^m positions from b q^m on are positions of a table
abbrev pub BlockWithin : TableModel → ℕ → ℕ → Type 0
BlockWithin T m b = (m ≤ T.digits) × ((b + 1) * T.q ^ m ≤ T.q ^ T.digits)

-- the points of block b: those of the q^m positions from b q^m on
abbrev pub block_points : FieldModel → OrderModel → ScramblerModel → TableModel → ℕ → ℕ → List (List ℕ)
block_points F O S T m b = map (point F O S T) (range_with_len (b * T.q ^ m) (T.q ^ m))
