pub mod Position
pub mod Asked
