use Rattle.std.proofs.Common.{◌≡◌, ℕ, ◌-◌, List, length, take, set, replicate, refl, arith}
use Rattle.std.proofs.lemmas.List.{length-set, length-take-le}
use Rattle.base.specs.Nets.{total}
use Rattle.base.proofs.SplitOrder.{first_all_last, none_before_all_last}
use Rattle.base.proofs.splits.Splits.first.Goals as goal

-- all is in the last coordinate
pub returns : goal.returns
returns c =
    let n = c.args.coordinates in
    let d = c.args.sum in
    let zeros : List ℕ = replicate 8 0 in
    let xs = take n (set zeros (n - 1) d) in
    let size : length xs ≡ n = length-take-le n (set zeros (n - 1) d) (omega (arith, length-set zeros (n - 1) d)) in
    let whole : total xs ≡ d = omega arith in
    let last = first_all_last 8 n d (omega arith) (omega arith) in
    (refl, refl, (size, whole), λ other s b. none_before_all_last xs other last (omega arith) b)
