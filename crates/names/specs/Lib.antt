pub mod Positions
pub mod ByName
pub mod Checks
