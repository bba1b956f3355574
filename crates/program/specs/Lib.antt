pub mod Faults
pub mod Memories
