pub mod Kept
pub mod TextOf
pub mod ParsedAs
pub mod GameIn
