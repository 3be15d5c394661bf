pub mod Resuming
pub mod Bounds
pub mod Made
pub mod Steps
pub mod Verdicts
pub mod Ranges
