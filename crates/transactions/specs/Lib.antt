pub mod Entries
pub mod Tracks
pub mod Fits
