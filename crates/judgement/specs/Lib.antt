pub mod Claims
pub mod Settled
pub mod Whole
