-- The meaning of the calls, from document 01.
pub mod Call
pub mod Refusal
pub mod Seat
pub mod Step
pub mod Promise
pub mod Run
