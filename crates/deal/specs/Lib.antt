pub mod Hands
pub mod Sides
pub mod Taking
