pub mod Givens
pub mod Polynomials
pub mod Powers
pub mod Reading
pub mod Recurrence
pub mod SobolTables
pub mod Spreading
