pub mod Placing
pub mod RowSums
