-- What the setup of a run means. Assumes nothing.
use Rattle.fields.specs.declared.field.Field as field
use Rattle.orders.specs.declared.order.Order as order
use Rattle.scramblers.specs.declared.scrambler.Scrambler as scrambler
use Rattle.run.specs.Runs.{Parts, parts}
use Rattle.run.specs.declared.opened.Setup.{Setup}

-- the parts of a setup, each by what its type says that it means
abbrev pub parts_of : {F O S : Type 0} → field.Ghosts F → order.Ghosts O → scrambler.Ghosts S → Setup F O S → Parts
parts_of f o t x = parts (f.means x.field) (o.means x.order) (t.means x.scrambler)
