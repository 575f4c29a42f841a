-- No scrambling. Assumes nothing.
use Rattle.std.specs.Prelude.{ℕ}
use Rattle.base.specs.Scramblers.{ScramblerModel}

-- each word stays as it is
abbrev pub no_scrambler : ℕ → ℕ → ℕ → ScramblerModel
no_scrambler q M s = record { q = q; digits = M; coordinates = s; scramble = λ j word. word }
