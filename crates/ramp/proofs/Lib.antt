pub mod Climbs
pub mod Profiles
pub mod Squares
pub mod Worked
