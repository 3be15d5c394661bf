pub mod Pairs
pub mod Tallies
pub mod Turns
pub mod Counts
