pub mod Cuts
pub mod Caps
pub mod Marks
pub mod Bits
pub mod Sums
pub mod Decimals
