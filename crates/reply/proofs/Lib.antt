pub mod Again
pub mod Padding
pub mod RoundTrip
pub mod Says
