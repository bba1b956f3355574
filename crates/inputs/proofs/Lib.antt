pub mod Flicker
