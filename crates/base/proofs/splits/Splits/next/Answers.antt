use Rattle.std.proofs.Common.{◌≡◌, length, take, refl, ◌∙◌, arith, rules}
use Rattle.std.proofs.lemmas.List.{get_or-take, length-take-le}
use Rattle.base.specs.Nets.{total}
use Rattle.base.proofs.SplitOrder.{EmptyPast, none_after_all_first, none_between, steps_before, left_falls}
use Rattle.base.proofs.SplitOrder.{Giver, stepped, stepped_steps, stepped_split, before_fits}
use Rattle.base.proofs.splits.Splits.next.Goals as goal

-- with nothing to give, all is in the first coordinate
pub returns-in_err-place-clause-last : goal.returns-in_err-place-clause-last
returns-in_err-place-clause-last c =
    let n = c.args.self.now.coordinates in
    let counts = c.args.self.now.counts in
    let size : length (take n counts) ≡ n = length-take-le n counts (omega arith) in
    let empty : EmptyPast 0 (take n counts) =
    λ k low high. get_or-take n counts k 0 (omega arith) ∙ c.last_giver.ensures.none c.in_err-place.was k low (omega arith) in
    λ _ other s. none_after_all_first (take n counts) other empty (omega arith)

-- the place before has less than the sum, which fits
pub overflow_add-counts : goal.overflow_add-counts
overflow_add-counts c =
    let n = c.args.self.now.coordinates in
    let counts = c.args.self.now.counts in
    let place = c.in_ok-place.place in
    let giver : Giver n place counts = search rules in
    omega (arith, before_fits n place counts giver)

-- the sum is the same
pub invariant_of-result : goal.invariant_of-result
invariant_of-result c =
    let n = c.args.self.now.coordinates in
    let counts = c.args.self.now.counts in
    let place = c.in_ok-place.place in
    let giver : Giver n place counts = search rules in
    let whole : total (take n (stepped n place counts)) ≡ c.args.self.now.sum =
    omega (arith, stepped_split n place counts giver) in
    record { some = c.args.self.now.some; few = c.args.self.now.few; whole = whole }

-- the split steps to the next one
pub returns : goal.returns
returns c =
    let n = c.args.self.now.coordinates in
    let counts = c.args.self.now.counts in
    let place = c.in_ok-place.place in
    let giver : Giver n place counts = search rules in
    let xs = take n counts in
    let ys = take n (stepped n place counts) in
    let size : length xs ≡ n = length-take-le n counts (omega arith) in
    let split = stepped_split n place counts giver in
    let steps = stepped_steps n place counts giver in
    let before = steps_before xs ys steps in
    record {
      same = (refl, refl);
      last = λ e. absurd (search rules);
      after = before;
      none_between = λ other s b. none_between xs ys other steps split (omega arith) b;
      falls = left_falls c.args.self.now.sum xs ys (omega arith) (omega arith) before;
    }
