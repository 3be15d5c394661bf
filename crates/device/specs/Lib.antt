pub mod Meaning
pub mod Answers
pub mod Layers
pub mod Rows
pub mod Kept
pub mod Stands
pub mod Layered
pub mod Alike
