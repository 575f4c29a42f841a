pub mod Verdicts
pub mod Worked
pub mod ZeroTables
