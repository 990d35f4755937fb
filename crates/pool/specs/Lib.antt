-- What the contracts of this crate cite.
pub mod Count
pub mod Guard
pub mod Task
