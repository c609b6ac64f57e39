pub mod Puts
pub mod Printed
pub mod Signs
pub mod SingleLines
pub mod RefusalLengths
