pub mod Aiming
pub mod Lines
pub mod Putting
pub mod Takes
