pub mod Signs
pub mod Words
pub mod Finite
pub mod Floats
pub mod Order
pub mod Least
