pub mod Codes
pub mod Joining
pub mod Neighbours
