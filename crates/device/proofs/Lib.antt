pub mod Takings
pub mod Places
