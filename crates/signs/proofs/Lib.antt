-- The laws that belong to no one function.
pub mod SignAt
pub mod Along
pub mod LeafRows
pub mod Fills
