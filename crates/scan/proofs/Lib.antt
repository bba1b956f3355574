pub mod Digits
pub mod Few
pub mod Tens
