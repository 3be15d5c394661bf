pub mod Waiting
pub mod Waits
pub mod Slots
pub mod Meant
pub mod Sheets
pub mod Nexts
pub mod Judged
pub mod Stands
