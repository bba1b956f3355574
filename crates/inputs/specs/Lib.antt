pub mod Contacts
pub mod Panels
pub mod Switches
