pub mod Lengths
pub mod Packed
