mod Examples
mod Turns
mod Blocks
mod Taken
pub mod Puts
pub mod Arrays
