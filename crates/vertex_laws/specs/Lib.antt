pub mod Vertices
pub mod Laws
