pub mod Words
pub mod Position
pub mod Told
pub mod History
