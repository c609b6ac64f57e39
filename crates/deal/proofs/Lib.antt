pub mod Words
pub mod Suits
pub mod Built
pub mod Held
pub mod Thirteen
pub mod Sides
pub mod Taking
