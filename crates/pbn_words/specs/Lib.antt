pub mod WordNumbers
pub mod RowNumbers
