pub mod Bytes
pub mod Repeats
