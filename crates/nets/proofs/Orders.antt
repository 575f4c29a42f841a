-- Orders on blocks: by the law at m the indexes of a block have one quotient by q^m, by the law at 0 their remainders are
-- different; so they run over all remainders, each once. Assumes nothing.
use Rattle.std.proofs.Common.{◌≡◌, ℕ, ◌+◌, ◌-◌, ◌*◌, ◌/◌, ◌%◌, ◌^◌, ◌<◌, ◌≤◌, sym, ap, ◌∙◌, mod-lt, suc-mul, div-add-mod', div-one, add-one, arith}
use native.Mathlib.Nat.{one-le-pow, pow-zero}
use Rattle.std.proofs.lemmas.Nat.{div-mul-add}
use Rattle.base.specs.Orders.{OrderLaws, OrderModel}
use Rattle.nets.specs.Blocks.{OrdersPermuteBlocks, RunsOver}
use Rattle.nets.proofs.Counting.{Permutes, onto}

block_end : (b Q : ℕ) → (b + 1) * Q ≡ b * Q + Q
block_end b Q = ap (λ k. k * Q) (add-one b) ∙ suc-mul b Q

module _ (O : OrderModel) (laws : OrderLaws O) (m b : ℕ) (within : m ≤ O.digits) (fits : (b + 1) * O.q ^ m ≤ O.q ^ O.digits) where
  some : 0 < O.q ^ m
  some = one-le-pow m O.q (omega (arith, laws.base.0))

  position_below : (r : ℕ) → r < O.q ^ m → b * O.q ^ m + r < O.q ^ O.digits
  position_below r h = omega (arith, h, fits, block_end b (O.q ^ m))

  -- the block of the indexes
  abbrev pub block : ℕ
  block = O.index (b * O.q ^ m + 0) / O.q ^ m

  pub index_block : (r : ℕ) → r < O.q ^ m → O.index (b * O.q ^ m + r) / O.q ^ m ≡ block
  index_block r h =
      laws.prefix m (b * O.q ^ m + r) (b * O.q ^ m + 0) within (position_below r h) (position_below 0 some)
      (div-mul-add b (O.q ^ m) r h ∙ sym (div-mul-add b (O.q ^ m) 0 some))

  -- the place of an index in its block
  abbrev pub place : ℕ → ℕ
  place r = O.index (b * O.q ^ m + r) % O.q ^ m

  pub index_is : (r : ℕ) → r < O.q ^ m → O.index (b * O.q ^ m + r) ≡ block * O.q ^ m + place r
  index_is r h =
      sym (div-add-mod' (O.index (b * O.q ^ m + r)) (O.q ^ m)) ∙ ap (λ k. k * O.q ^ m + place r) (index_block r h)

  different : (r u : ℕ) → r < O.q ^ m → u < O.q ^ m → O.index (b * O.q ^ m + r) ≡ O.index (b * O.q ^ m + u) → r ≡ u
  different r u h k e =
      let whole : (n : ℕ) → n / O.q ^ 0 ≡ n = λ n. ap (λ w. n / w) (pow-zero O.q) ∙ div-one n in
      let positions : b * O.q ^ m + r ≡ b * O.q ^ m + u = sym (whole (b * O.q ^ m + r))
      ∙ laws.prefix_back 0 (b * O.q ^ m + r) (b * O.q ^ m + u) (omega arith) (position_below r h) (position_below u k) (ap (λ i. i / O.q ^ 0) e)
      ∙ whole (b * O.q ^ m + u) in
      omega (arith, positions)

  pub place_permutes : Permutes (O.q ^ m) place
  place_permutes =
      record {
        below = λ r h. mod-lt (O.index (b * O.q ^ m + r)) some;
        one_to_one = λ r u h k e. different r u h k (index_is r h ∙ ap (λ p. block * O.q ^ m + p) e ∙ sym (index_is u k));
      }

  pub runs_over : RunsOver O m b block
  runs_over =
      record {
        inside = index_block;
        reached = λ v h. let found = onto (O.q ^ m) place place_permutes v h in
            (found.0, found.1, index_is found.0 found.1 ∙ ap (λ p. block * O.q ^ m + p) found.2);
        once = different;
      }

  block_within : (block + 1) * O.q ^ m ≤ O.q ^ O.digits
  block_within =
      let last = runs_over.reached (O.q ^ m - 1) (omega (arith, some)) in
      omega (arith, some, block_end block (O.q ^ m), last.2, laws.below (b * O.q ^ m + last.0) (position_below last.0 last.1))

pub orders_permute_blocks_spec : OrdersPermuteBlocks
orders_permute_blocks_spec O laws m b within fits =
    (block O laws m b within fits, block_within O laws m b within fits, runs_over O laws m b within fits)
