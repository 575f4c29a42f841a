use Rattle.std.proofs.Common.{◌≡◌, ◌+◌, ◌-◌, ◌*◌, [], ◌++◌, map, length, sym, ap, ◌∙◌, subst, arith, below_more}
use Rattle.std.proofs.lemmas.List.FromFn.{get_or-map-range_with_len, length-map-range_with_len}
use Rattle.std.specs.List.{range_with_len}
use Rattle.base.specs.Points.{point}
use Rattle.checks.specs.Counting.{points_of}
use Rattle.tables.specs.Table.{model}
use Rattle.block_examples.proofs.CountedFrom.{counted_from}
use Rattle.block_examples.proofs.PointLists.{length_more, point_added, point_at, point_kept}
use Rattle.block_examples.proofs.points.Points.block_points.Goals as goal

pub loop-position-preserved : goal.loop-position-preserved
loop-position-preserved g c =
    let points = c.args.self.now in
    let T = model points.table.now in
    let s = T.coordinates in
    let f = point (g.F.Field.means points.field.now) (g.O.Order.means points.order.now) (g.S.Scrambler.means points.scrambler.now) T in
    let first = c.args.block * c.power-size.result in
    let n = c.loop-position.position - first in
    let before = c.loop-position.invariant in
    let xs = c.loop-position.numerators.items in
    let ys = c.write_point.new.out in
    let is : c.extend_from_slice.new.self.items ≡ xs ++ ys = c.in_ok-extend_from_slice.ensures.items in
    let more : c.loop-position.position + 1 - first ≡ n + 1 = omega arith in
    let here : first + n ≡ c.loop-position.position = omega arith in
    let size : length ys ≡ s = ap length c.write_point.ensures ∙ length-map-range_with_len _ 0 s in
    record {
      size = ap length is ∙ length_more s n xs ys before.size size ∙ ap (λ k. k * s) (sym more);
      room = size;
      done = λ k h.
          ap (λ zs. point_at s zs k) is
          ∙ below_more (λ k. point_at s (xs ++ ys) k ≡ f (first + k)) n
          (λ k h. point_kept s n xs ys before.size size k h ∙ before.done k h)
          (point_added s n xs ys before.size size ∙ c.write_point.ensures ∙ ap f (sym here)) k (omega (arith, h, more));
    }

pub returns : goal.returns
returns g c =
    let points = c.args.self.now in
    let T = model points.table.now in
    let s = T.coordinates in
    let f = point (g.F.Field.means points.field.now) (g.O.Order.means points.order.now) (g.S.Scrambler.means points.scrambler.now) T in
    let xs = c.loop-position.numerators.items in
    let size = c.power-size.result in
    let all : c.loop-position.position - c.args.block * size ≡ size = omega arith in
    subst (λ n. points_of s n xs ≡ map f (range_with_len (c.args.block * n) n)) c.power-size.ensures
    (counted_from f (points_of s size xs) (c.args.block * size) size [] (length-map-range_with_len (point_at s xs) 0 size)
    (λ k h. get_or-map-range_with_len (point_at s xs) 0 size k k [] h (omega arith) ∙ c.loop-position.invariant.done k (omega (arith, h, all))))
