pub mod Numbers
pub mod Scores
