pub mod NameOrder
pub mod NameShape
pub mod WordSteps
pub mod Titles
pub mod Classes
pub mod WordsFound
pub mod Handing
