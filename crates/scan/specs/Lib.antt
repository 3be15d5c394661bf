pub mod Names
pub mod NamesOrdered
pub mod NameBytes
pub mod Words
pub mod WordsStand
pub mod Scanning
pub mod Reading
