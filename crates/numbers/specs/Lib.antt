pub mod Splits
pub mod Judged
pub mod Numbers
pub mod Answers
pub mod Capped
pub mod Theorems
