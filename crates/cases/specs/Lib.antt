pub mod Worked
pub mod Four
pub mod Sealed
