pub mod Within
pub mod Search
pub mod Cards
pub mod Laws
pub mod SomeCard
