pub mod Granting
pub mod Explaining
