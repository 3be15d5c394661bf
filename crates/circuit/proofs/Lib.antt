mod Joins
pub mod Widths
