pub mod Hashes
pub mod Chains
pub mod Tree
pub mod Verify
pub mod Keys
