pub mod Words
pub mod Orders
pub mod Walks
pub mod Laws
pub mod Examples
pub mod Tails
pub mod Answer
