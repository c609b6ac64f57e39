mod Bounds
pub mod Steps
pub mod History
pub mod Doubles
pub mod First
pub mod Laws
