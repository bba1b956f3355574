pub mod Legs
pub mod Limits
