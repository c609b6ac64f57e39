pub mod Fields
pub mod Answer
