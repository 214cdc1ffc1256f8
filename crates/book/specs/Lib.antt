pub mod Fault
pub mod Law
pub mod Line
pub mod Pallets
pub mod Transfers
