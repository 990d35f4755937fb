-- The definitions that the contracts of `bitset` cite.
pub mod Set
pub mod Answers
pub mod On
