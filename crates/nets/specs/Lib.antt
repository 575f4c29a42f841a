pub mod Blocks
pub mod Leading
pub mod Rows
pub mod Theorem
pub mod Zero
