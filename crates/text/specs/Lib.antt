pub mod Putting
pub mod Refused
