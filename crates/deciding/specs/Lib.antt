pub mod Searches
pub mod Decisions
