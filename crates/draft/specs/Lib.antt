pub mod Entries
pub mod Drafts
pub mod Rooms
