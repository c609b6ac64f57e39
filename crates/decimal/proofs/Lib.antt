pub mod Reading
pub mod Scores
