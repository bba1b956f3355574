pub mod Lengths
pub mod Lists
pub mod Scans
