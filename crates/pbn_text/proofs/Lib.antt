pub mod KeptNumbers
pub mod Stepping
pub mod RowLines
pub mod AnyStage
pub mod WholeText
pub mod TextTurns
pub mod Told
