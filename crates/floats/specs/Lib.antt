pub mod Value
pub mod Test
