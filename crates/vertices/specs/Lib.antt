pub mod Places
pub mod Numbering
