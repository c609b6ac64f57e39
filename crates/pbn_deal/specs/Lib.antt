pub mod Walks
pub mod DealOn
