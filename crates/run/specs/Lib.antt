pub mod Law
pub mod Present
pub mod Replays
pub mod Runs
pub mod Setups
pub mod States
pub mod Written
