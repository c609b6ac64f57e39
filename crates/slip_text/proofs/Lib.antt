pub mod Placing
pub mod Enough
pub mod Slips
pub mod Calling
