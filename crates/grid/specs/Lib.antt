-- The meaning of one grid, from document 01.
pub mod Node
pub mod Geometry
pub mod Voxel
pub mod Whole
pub mod SignFill
pub mod Combine
pub mod End
