pub mod Refusals
pub mod Tellings
