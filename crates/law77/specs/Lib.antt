pub mod Scoring
