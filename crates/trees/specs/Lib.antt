-- What is done to all that hangs below a node.
pub mod Slot
pub mod Turn
pub mod Below
pub mod Links
pub mod Copy
pub mod Combine
