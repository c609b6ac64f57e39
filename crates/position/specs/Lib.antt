pub mod Table
pub mod History
pub mod Listed
