pub mod Comparing
pub mod Told
