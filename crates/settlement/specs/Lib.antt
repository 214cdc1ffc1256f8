pub mod Faults
pub mod Accept
pub mod Box
pub mod Examine
pub mod Seen
pub mod Order
