pub mod Enough
pub mod Rows
pub mod FirstBytes
pub mod Example
pub mod Sheets
