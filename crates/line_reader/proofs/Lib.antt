pub mod Bytes
pub mod Readings
pub mod Levels
pub mod Letters
