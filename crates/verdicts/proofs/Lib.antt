pub mod Committed
pub mod Exclusion
pub mod Judged
