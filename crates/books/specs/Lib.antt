pub mod Allowance
pub mod Ballots
pub mod Pair
pub mod Shipped
pub mod Counts
pub mod Below
pub mod Votes
pub mod Sides
