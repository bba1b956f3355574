pub mod Allowances
pub mod Fences
