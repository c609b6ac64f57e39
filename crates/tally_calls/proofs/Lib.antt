pub mod Saying
pub mod Narrowing
