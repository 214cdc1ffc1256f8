pub mod Kept
mod Coming
