pub mod HeldCards
pub mod Walked
pub mod DealLines
