pub mod Rules
pub mod Successors
