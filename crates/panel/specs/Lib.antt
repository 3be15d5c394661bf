pub mod Meant
pub mod Pressing
pub mod Stands
