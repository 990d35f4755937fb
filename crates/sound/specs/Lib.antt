-- What the contracts of this crate cite.
pub mod Runs
pub mod Slots
pub mod Own
pub mod Links
pub mod Whole
