pub mod Counting
pub mod Settings
