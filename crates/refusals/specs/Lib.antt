pub mod Cause
pub mod Reading
