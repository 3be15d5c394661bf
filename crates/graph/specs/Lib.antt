pub mod Answer
pub mod Grid
pub mod Needs
pub mod Reach
pub mod Settled
pub mod Solve
