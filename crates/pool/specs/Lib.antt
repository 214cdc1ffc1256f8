pub mod Ready
pub mod History
pub mod Promise
