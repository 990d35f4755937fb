-- The laws that belong to no one function.
pub mod Guards
pub mod WholePromises
pub mod Tasks
pub mod Pairs
pub mod WholeSeats
pub mod WholePairs
