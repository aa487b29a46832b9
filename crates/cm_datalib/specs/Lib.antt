pub mod Loads
pub mod Places
pub mod Spellings
