-- The search for t: so far some split failed for every number, one number more, and the end, where there is nothing to pass.
-- Assumes nothing.
use Rattle.std.proofs.Common.{◌≡◌, ℕ, ◌+◌, ◌-◌, ◌<◌, ◌≤◌, List, length, ap, ◌∙◌, arith, below_more}
use Rattle.base.proofs.SplitsPassed.{PassedBefore}
use Rattle.base.specs.Fields.{FieldModel}
use Rattle.base.specs.Independence.{AllPass, FirstPassing, Passes}
use Rattle.base.specs.Nets.{Split, total}
use Rattle.base.specs.Splits.{counts_of}
use Rattle.base.specs.Tables.{TableModel}
use Rattle.base.specs.declared.splits.Splits.{Splits}

-- some split of m - u fails
abbrev pub Fails : FieldModel → TableModel → ℕ → ℕ → Type 0
Fails F T m u = (counts : List ℕ) × Split T.coordinates (m - u) counts × (Passes F T m counts → ⊥)

-- so it is for each u below t
abbrev pub FailsBelow : FieldModel → TableModel → ℕ → ℕ → Type 0
FailsBelow F T m t = (u : ℕ) → u < t → Fails F T m u

module _ (F : FieldModel) (T : TableModel) (m t : ℕ) (fails : FailsBelow F T m t) where
  -- where the split of m - t at hand fails too
  pub fails_more : (x : Splits) → PassedBefore T.coordinates (m - t) (Passes F T m) x → (counts : List ℕ) → counts ≡ counts_of x
      → length counts ≡ x.coordinates → (Passes F T m counts → ⊥) → FailsBelow F T m (t + 1)
  fails_more x so_far counts is size not =
      below_more (Fails F T m) t fails (counts, (size ∙ so_far.coordinates, ap total is ∙ x.whole ∙ so_far.sum), not)

  -- where all of them pass
  pub found : t ≤ m → AllPass F T m t → FirstPassing F T m t
  found within passes = record { within = within; passes = passes; fails = fails }

  -- at the end t is m: a split of 0 has no rows, and passes
  pub found_last : m ≤ t → FirstPassing F T m m
  found_last end =
      record {
        within = omega arith;
        passes = λ counts split c digits vanish i h. absurd (omega (arith, h, split.1));
        fails = λ u h. fails u (omega (arith, h, end));
      }
