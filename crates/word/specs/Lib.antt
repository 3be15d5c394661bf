pub mod Functions
pub mod Laws
pub mod Places
