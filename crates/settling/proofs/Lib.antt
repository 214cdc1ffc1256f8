mod Bounds
mod Closing
pub mod OrderRuns
pub mod OrderLines
pub mod OrderDockets
pub mod OrderNumbers
pub mod OrderCounts
pub mod OrderWindow
pub mod OrderLedger
pub mod OrderFree
