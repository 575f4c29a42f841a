-- A field's sum of products, worked out pair by pair. Assumes nothing.
use Rattle.std.proofs.Common.{◌≡◌, ℕ, ◌+◌, ◌≤◌, List, length, length-drop, get_or, take, drop, ◌∙◌, ap, arith}
use Rattle.std.proofs.lemmas.List.{get_or-drop, get_or-take, length-take-le}
use Rattle.base.proofs.FieldAlgebra.{sum_over_same}
use Rattle.base.specs.Fields.{FieldModel, sum_over}

-- the sum with a part of a list is that with the entries of the list, from the part's place on
pub part_sum : (F : FieldModel) (xs ys : List ℕ) (place start n m : ℕ) → place + n ≤ length xs → start ≡ place → m ≡ n
    → sum_over F (length (take m (drop start xs))) (λ i. F.product (get_or (take m (drop start xs)) i 0) (get_or ys i 0))
    ≡ sum_over F n (λ i. F.product (get_or xs (place + i) 0) (get_or ys i 0))
part_sum F xs ys place start n m within at_place same =
    let size : length (take m (drop start xs)) ≡ n =
    rw same (length-take-le n (drop start xs) (omega (arith, length-drop start xs))) in
    ap (λ k. sum_over F k (λ i. F.product (get_or (take m (drop start xs)) i 0) (get_or ys i 0))) size
    ∙ sum_over_same F n (λ i. F.product (get_or (take m (drop start xs)) i 0) (get_or ys i 0))
    (λ i. F.product (get_or xs (place + i) 0) (get_or ys i 0))
    (λ i low.
    ap (λ x. F.product x (get_or ys i 0))
    (get_or-take m (drop start xs) i 0 (omega arith) ∙ get_or-drop start xs i 0 ∙ ap (λ k. get_or xs (k + i) 0) at_place))
