-- The demands, in their own words and in document 01's.
pub mod Rows
pub mod Shows
pub mod Sequence
