pub mod Quorum
pub mod Again
pub mod Marks
pub mod Moments
pub mod Promise
