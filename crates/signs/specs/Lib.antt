-- What the contracts of this crate cite.
pub mod Signs
pub mod Seen
