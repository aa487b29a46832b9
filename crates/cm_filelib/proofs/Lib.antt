pub mod Adding
pub mod Digits
pub mod Names
pub mod Wholes
