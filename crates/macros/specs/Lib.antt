pub mod Filling
pub mod Full
pub mod Growing
pub mod Needs
pub mod Pieces
pub mod Tables
pub mod Uses
