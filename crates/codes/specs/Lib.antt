pub mod Coded
pub mod Host
pub mod Program
