pub mod Auctions
pub mod Tagged
pub mod Written
