pub mod TrickWon
pub mod Ordered
