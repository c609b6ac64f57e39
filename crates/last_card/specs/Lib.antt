pub mod Sections
pub mod Reached
