-- The laws that belong to no one function.
pub mod Voxels
pub mod Places
pub mod States
pub mod Changes
pub mod Books
pub mod Paths
pub mod Seeks
pub mod Inserts
pub mod Removes
pub mod Leaves
pub mod Tells
pub mod Each
pub mod Wipes
pub mod Pools
