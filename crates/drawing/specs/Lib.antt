pub mod EdgeSets
pub mod Drawable
