mod Lines
mod Answered
pub mod RoundTrip
pub mod Sizes
