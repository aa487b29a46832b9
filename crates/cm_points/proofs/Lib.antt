pub mod Choosing
pub mod Searching
