pub mod SameBytes
pub mod RowsRead
pub mod TagLines
pub mod BoardLines
pub mod Searched
