pub mod Lists
pub mod Counting
pub mod Limits
pub mod History
