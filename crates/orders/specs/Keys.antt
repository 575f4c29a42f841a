-- What a shifted order keeps of its key. Assumes nothing.
use Rattle.std.specs.Prelude.{◌≡◌, ℕ, ◌<◌, List, slice_index}
use Rattle.orders.specs.declared.shifted.ShiftedOrder.{ShiftedOrder}

-- the order has the q, the M and the key digits that it was made with
pub record KeptKey (q M : ℕ) (key : List ℕ) (x : ShiftedOrder) : Type 0 where
  pub q_is : x.size.q ≡ q
  pub digits_are : x.size.digits ≡ M
  pub key_is : (l : ℕ) → l < M → slice_index x.key l ≡ slice_index key l
