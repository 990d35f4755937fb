-- The laws that belong to no one function.
pub mod Digits
pub mod Words
pub mod Sets
pub mod Loops
pub mod Every
pub mod First
pub mod Left
pub mod Shifts
pub mod Parts
pub mod Ext
