pub mod Boards
pub mod States
pub mod Answers
pub mod Told
