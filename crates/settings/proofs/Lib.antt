mod Formats
mod Ranges
