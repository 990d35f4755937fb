-- The laws that belong to no one function.
pub mod Slots
pub mod Turns
pub mod Counts
pub mod Listed
pub mod Copies
pub mod Joins
pub mod Takes
