-- The theorems of the demands: 1 is Refusals and Spoils, 2 is Rules, 3 is Neither; Agree and Excluded are what the promises have to exclude.
pub mod Read
pub mod Voxel
pub mod Rows
pub mod Refusals
pub mod Spoils
pub mod Under
pub mod Rules
pub mod Plain
pub mod Neither
pub mod Agree
pub mod Excluded
pub mod Witness
