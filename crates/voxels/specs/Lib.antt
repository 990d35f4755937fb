-- What the contracts of this crate cite, and those of the crates above.
pub mod Lent
pub mod Refused
pub mod Answers
