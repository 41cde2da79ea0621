pub mod Kinds
pub mod Edges
pub mod Graphs
pub mod Starts
