pub mod Stream
pub mod Bench
