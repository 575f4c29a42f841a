-- A list whose place k holds f (a + k) is f of the numbers from a on. Assumes nothing.
use Rattle.std.proofs.Common.{◌≡◌, ℕ, ◌+◌, ◌<◌, List, map, length, get_or, sym, refl, ◌∙◌}
use Rattle.std.proofs.lemmas.List.FromFn.{fill_by_all, get_or-map-range_with_len, length-map-range_with_len}
use Rattle.std.specs.List.{range_with_len}

pub counted_from : {X : Type 0} (f : ℕ → X) (xs : List X) (a n : ℕ) (d : X) → length xs ≡ n → ((k : ℕ) → k < n → get_or xs k d ≡ f (a + k))
    → xs ≡ map f (range_with_len a n)
counted_from f xs a n d size each =
    fill_by_all (λ k. f (a + k)) xs n d size each
    ∙ sym (fill_by_all (λ k. f (a + k)) (map f (range_with_len a n)) n d (length-map-range_with_len f a n) (λ k h. get_or-map-range_with_len f a n k (a + k) d h refl))
