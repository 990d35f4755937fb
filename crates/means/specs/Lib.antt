-- What the memory of a pool stands for.
pub mod Ends
pub mod Joined
pub mod Level
pub mod Mem
pub mod Once
pub mod Owner
pub mod Prepared
pub mod Turn
pub mod Twins
pub mod Unspoilt
