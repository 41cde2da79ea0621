pub mod Lists
pub mod Sets
pub mod Orders
pub mod Tails
pub mod Places
pub mod Walks
pub mod Ends
