pub mod Sums
pub mod Grids
pub mod Shown
pub mod Words
pub mod Events
