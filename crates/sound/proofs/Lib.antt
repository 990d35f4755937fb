-- The laws that belong to no one function.
pub mod Fits
pub mod Book
pub mod Ready
pub mod Tally
pub mod Counted
pub mod Links
pub mod Checks
pub mod Chains
pub mod Own
pub mod Groups
