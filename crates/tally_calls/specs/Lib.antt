pub mod Calls
pub mod Narrowed
