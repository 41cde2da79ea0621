pub mod Numbers
pub mod Grammars
pub mod Forms
pub mod Known
pub mod Faults
pub mod Listings
pub mod Steps
pub mod Lengths
