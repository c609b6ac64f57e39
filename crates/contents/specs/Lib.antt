pub mod Given
pub mod Checked
