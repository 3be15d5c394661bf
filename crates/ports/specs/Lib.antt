pub mod Accesses
pub mod Deeds
pub mod Memories
