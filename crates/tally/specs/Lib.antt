pub mod Entries
pub mod Tallies
pub mod Steps
pub mod Points
pub mod Shape
pub mod InBytes
