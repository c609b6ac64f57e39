pub mod Measuring
pub mod CardsAlone
pub mod Writing
pub mod Lengths
pub mod Records
