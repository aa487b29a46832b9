pub mod Changes
pub mod Counts
pub mod InMemory
pub mod Kept
pub mod Laws
pub mod Places
pub mod Rows
pub mod Valid
