pub mod WritingBeyond
pub mod Writing
pub mod Slip
pub mod Pbn
pub mod PbnProgram
