pub mod Writing
pub mod Slip
pub mod Pbn
