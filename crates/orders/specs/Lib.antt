pub mod Digitwise
pub mod Gray
pub mod Keys
pub mod Plain
pub mod Shifted
pub mod Sizes
pub mod Numerals
pub mod Prefixes
