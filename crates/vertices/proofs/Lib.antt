pub mod Firsts
pub mod Few
pub mod Commits
pub mod Members
pub mod Steps
