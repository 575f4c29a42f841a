pub mod Cubes
pub mod FieldAlgebra
pub mod Horner
pub mod SplitOrder
pub mod SplitsPassed
pub mod Testing
pub mod Widths
pub mod Shifts
