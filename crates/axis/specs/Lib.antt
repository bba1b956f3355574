pub mod Steps
pub mod Pulses
pub mod Resolutions
pub mod Stands
pub mod Printed
