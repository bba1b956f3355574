pub mod Bytes
pub mod Checking
pub mod Kinds
pub mod Listing
pub mod Reading
pub mod Words
