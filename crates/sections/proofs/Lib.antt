pub mod Letters
pub mod Steps
pub mod Cuts
pub mod Lacks
