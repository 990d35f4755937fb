-- The theorems on one grid.
pub mod Cases
pub mod Places
pub mod Geometry
pub mod Voxel
pub mod Whole
pub mod SignFill
pub mod CombinedSign
pub mod CombinedEnd
pub mod Cells
pub mod Reach
pub mod Proper
