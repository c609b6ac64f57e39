pub mod Storing
pub mod Rows
pub mod Sequences
pub mod Fields
