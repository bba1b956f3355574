pub mod RoundTrips
pub mod Sendings
pub mod Slips
pub mod Texts
