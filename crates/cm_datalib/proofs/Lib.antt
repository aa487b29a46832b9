pub mod Alone
pub mod Fronts
pub mod Loaded
pub mod Names
pub mod Stores
pub mod Writes
