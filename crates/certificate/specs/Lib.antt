pub mod Faults
pub mod Contents
pub mod Table
pub mod Layout
