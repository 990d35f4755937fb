-- The laws that belong to no one function.
pub mod Refused
pub mod Promises
pub mod Granted
pub mod Ends
pub mod Afford
pub mod Turns
