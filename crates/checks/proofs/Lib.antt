pub mod Blocks
pub mod CellNumbers
pub mod Scaling
pub mod Splitting
pub mod Tallies
