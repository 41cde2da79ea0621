pub mod Places
pub mod Carried
pub mod Graphs
pub mod Laws
