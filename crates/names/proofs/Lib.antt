pub mod Finding
pub mod Sorting
pub mod Judging
pub mod Meeting
pub mod Checking
pub mod Circling
pub mod Stable
