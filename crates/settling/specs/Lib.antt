pub mod Window
pub mod Settle
pub mod Books
pub mod Order
