pub mod Validity
pub mod Scale
pub mod Sums
pub mod Told
