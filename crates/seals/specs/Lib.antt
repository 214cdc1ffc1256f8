pub mod Fault
pub mod Roll
pub mod Texts
