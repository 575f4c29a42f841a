pub mod Matrices
pub mod Search
