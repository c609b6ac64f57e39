pub mod Words
pub mod Rows
pub mod Places
pub mod Stores
