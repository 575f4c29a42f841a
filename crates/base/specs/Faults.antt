-- The numbers of faults, and what a fault prints. Assumes nothing.
use Rattle.std.specs.Prelude.{ℕ, List, ◌++◌, Option, Some, None, if◌then◌else◌, ◌==◌, codes, decimal, unwrap_or}
use Rattle.base.specs.declared.faults.Kind.{Kind}
use Rattle.base.specs.declared.faults.Kind.TheVariants.{NotPrime, OutOfRange, WrongLength, BadLayout, NotPrimitive, BadDirection, BadDigit, OutOfReach, Mismatch, EmptyRun, Finished, OutOfMemory}
use Rattle.base.specs.declared.faults.Layer.{Layer}
use Rattle.base.specs.declared.faults.Layer.TheVariants.{Reader, Tables, Run, Check, Travel, Making}
use Rattle.base.specs.declared.faults.Fault.{Fault}
use Rattle.base.specs.declared.faults.Numbers.{Numbers}

-- the number of each cause: 1 to 9 come from the input, 20 and 21 from the state of a run, 30 from the machine
abbrev pub kind_number : Kind → ℕ
kind_number NotPrime = 1
kind_number OutOfRange = 2
kind_number WrongLength = 3
kind_number BadLayout = 4
kind_number NotPrimitive = 5
kind_number BadDirection = 6
kind_number BadDigit = 7
kind_number OutOfReach = 8
kind_number Mismatch = 9
kind_number EmptyRun = 20
kind_number Finished = 21
kind_number OutOfMemory = 30

-- the number of each layer
abbrev pub layer_number : Layer → ℕ
layer_number Reader = 1
layer_number Tables = 2
layer_number Run = 3
layer_number Check = 4
layer_number Travel = 5
layer_number Making = 6

-- a refusal as its four stated numbers; the coordinate is 255 where the fault belongs to none
pub record Refusal : Type 0 where
  pub number : ℕ
  pub layer : ℕ
  pub coordinate : ℕ
  pub place : ℕ

-- a refusal from its number, layer, coordinate and place
abbrev pub refusal : ℕ → ℕ → ℕ → ℕ → Refusal
refusal n l c p = record { number = n; layer = l; coordinate = c; place = p }

-- the number of a coordinate: 255 says that the fault belongs to none. No refusal may name a coordinate 255 beside that,
-- so it has a number that is no byte, and the four numbers of a refusal leave one fault and no other
abbrev pub coordinate_number : Option ℕ → ℕ
coordinate_number None = 255
coordinate_number (Some c) = if c == 255 then 256 else c

-- the four numbers of a fault
abbrev pub stated : Fault → Refusal
stated f = refusal (kind_number f.kind) (layer_number f.layer) (coordinate_number f.coordinate) f.place

-- the four numbers that a fault prints, which are bytes but for the place
abbrev pub printed : Fault → Refusal
printed f = refusal (kind_number f.kind) (layer_number f.layer) (unwrap_or f.coordinate 255) f.place

-- the same as the program hands them out
abbrev pub told : Numbers → Refusal
told n = refusal n.0 n.1 n.2 n.3

-- what a fault prints: "refused" and its four numbers, one space between two
abbrev pub shown_fault : Fault → List ℕ
shown_fault f =
    codes "refused " ++ (decimal (kind_number f.kind) ++ (codes " " ++ (decimal (layer_number f.layer) ++ (codes " " ++ (decimal (unwrap_or f.coordinate 255) ++ (codes " " ++ decimal f.place))))))
