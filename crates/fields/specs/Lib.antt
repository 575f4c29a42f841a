pub mod Bit
pub mod Four
pub mod Guarded
pub mod Prime
pub mod OnDigits
pub mod Tested
pub mod Modular
