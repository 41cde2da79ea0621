pub mod Lines
pub mod Grammar
pub mod Laws
pub mod Known
