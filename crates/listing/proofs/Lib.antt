pub mod Fitting
pub mod Readings
pub mod Writings
