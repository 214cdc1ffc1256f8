pub mod Sheet
pub mod Own
