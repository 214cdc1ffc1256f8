mod Parts
mod Rows
mod Head
pub mod Accepted
mod RoundTrip
mod Written
