pub mod Words
pub mod Position
