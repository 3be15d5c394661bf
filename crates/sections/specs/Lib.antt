pub mod Nexts
pub mod Faults
pub mod TextWords
pub mod Walks
