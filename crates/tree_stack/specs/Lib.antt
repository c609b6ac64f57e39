pub mod Deals
pub mod Saying
pub mod Stacks
