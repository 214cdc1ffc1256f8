mod Seals
mod Fitting
pub mod Order
