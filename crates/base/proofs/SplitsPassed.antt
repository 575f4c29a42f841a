-- Going through the splits: what holds of those before the one at hand. Assumes nothing.
use Rattle.std.proofs.Common.{◌≡◌, ℕ, ◌+◌, ◌⊎◌, List, Option, Some, None, IfSome, sym, refl, ◌∙◌, subst, ⊎_elim}
use Rattle.base.specs.Nets.{Split}
use Rattle.base.specs.Splits.{Before, NoneAfter, counts_of, left}
use Rattle.base.specs.declared.splits.Splits.{Splits}

-- the split at hand is one of d over s coordinates, and every split before it has P
pub record PassedBefore (s d : ℕ) (P : List ℕ → Type 0) (x : Splits) : Type 0 where
  pub coordinates : x.coordinates ≡ s
  pub sum : x.sum ≡ d
  pub passed : (other : List ℕ) → Split s d other → Before other (counts_of x) → P other

-- where the one at hand has P too and is the last, all have
pub all_passed : (s d : ℕ) (P : List ℕ → Type 0) (x : Splits) → PassedBefore s d P x → P (counts_of x) → NoneAfter x.coordinates x.sum (counts_of x)
    → (other : List ℕ) → Split s d other → P other
all_passed s d P x so_far here none other is =
    ⊎_elim (so_far.passed other is) (λ e. subst P (sym e) here)
    (none other (subst (λ n. Split n x.sum other) (sym so_far.coordinates) (subst (λ n. Split s n other) (sym so_far.sum) is)))

-- where the one at hand has P too, all before the next have
pub passed_next : (s d : ℕ) (P : List ℕ → Type 0) (x y : Splits) → PassedBefore s d P x → P (counts_of x)
    → y.coordinates ≡ x.coordinates → y.sum ≡ x.sum
    → ((other : List ℕ) → Split x.coordinates x.sum other → Before other (counts_of y) → Before other (counts_of x) ⊎ (other ≡ counts_of x))
    → PassedBefore s d P y
passed_next s d P x y so_far here coordinates sum between =
    record {
      coordinates = coordinates ∙ so_far.coordinates;
      sum = sum ∙ so_far.sum;
      passed = λ other is before.
          ⊎_elim (so_far.passed other is) (λ e. subst P (sym e) here)
          (between other (subst (λ n. Split n x.sum other) (sym so_far.coordinates) (subst (λ n. Split s n other) (sym so_far.sum) is)) before);
    }

-- every split before the one at hand has P, and every split where none is left
abbrev pub PassedUpTo : ℕ → ℕ → (List ℕ → Type 0) → Option Splits → Type 0
PassedUpTo s d P None = (counts : List ℕ) → Split s d counts → P counts
PassedUpTo s d P (Some x) = PassedBefore s d P x

-- a number that falls from the split at hand to what comes next
abbrev pub left_at : ℕ → Option Splits → ℕ
left_at d None = 0
left_at d (Some x) = left d (counts_of x) + 1

-- where the one at hand has P too, so it is up to what comes next
pub up_to_next : (s d : ℕ) (P : List ℕ → Type 0) (x : Splits) (r : Option Splits) → PassedBefore s d P x → P (counts_of x)
    → IfSome r (λ y. (y.coordinates ≡ x.coordinates) × (y.sum ≡ x.sum)) → (r ≡ None → NoneAfter x.coordinates x.sum (counts_of x))
    → IfSome r
    (λ y. (other : List ℕ) → Split x.coordinates x.sum other → Before other (counts_of y) → Before other (counts_of x) ⊎ (other ≡ counts_of x))
    → PassedUpTo s d P r
up_to_next s d P x None so_far here same last between = all_passed s d P x so_far here (last refl)
up_to_next s d P x (Some y) so_far here same last between = passed_next s d P x y so_far here same.0 same.1 between
