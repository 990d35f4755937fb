-- The cells and slots of a pool, as functions, and how lent memory holds them.
pub mod State
pub mod Layout
pub mod Pool
pub mod Change
pub mod Walk
pub mod Level
pub mod Test
pub mod Range
pub mod Place
pub mod Steps
pub mod Insert
pub mod Remove
pub mod Split
pub mod Each
pub mod Wipe
