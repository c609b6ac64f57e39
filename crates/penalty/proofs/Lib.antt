pub mod Sets
pub mod Tests
pub mod Stands
pub mod Stepping
pub mod Marking
