pub mod Courses
pub mod Laws
pub mod Levels
pub mod Rates
pub mod Roots
