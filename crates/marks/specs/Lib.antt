pub mod Outcomes
pub mod Rows
pub mod Fault
pub mod Marks
pub mod Table
pub mod Kept
