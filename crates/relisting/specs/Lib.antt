pub mod Relists
pub mod Copies
pub mod Summary
