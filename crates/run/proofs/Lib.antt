pub mod Calling
pub mod Changes
pub mod Histories
pub mod Logging
pub mod Moving
pub mod Points
pub mod Same
pub mod Standing
