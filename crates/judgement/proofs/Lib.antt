pub mod Claiming
pub mod Padding
pub mod Settling
pub mod Judging
pub mod Reaching
pub mod Told
pub mod Widths
