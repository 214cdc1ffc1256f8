pub mod Words
pub mod Compression
pub mod Digest
pub mod Examples
pub mod Hasher
