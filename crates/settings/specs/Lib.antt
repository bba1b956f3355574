pub mod Parameters
pub mod Values
