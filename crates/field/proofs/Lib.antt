pub mod ThreeBytes
