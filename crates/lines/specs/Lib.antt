pub mod Laid
pub mod Pages
