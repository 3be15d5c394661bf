pub mod Meaning
pub mod Least
pub mod Told
