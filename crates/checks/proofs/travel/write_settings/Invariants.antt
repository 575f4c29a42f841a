use Rattle.checks.specs.Settings.{Scaled}
use Rattle.checks.proofs.travel.write_settings.Given as goal

-- the settings so far are written
abbrev pub invariant-loop-j : goal.invariant-loop-j
invariant-loop-j l = Scaled l.positions l.j l.numerators l.travel l.out
