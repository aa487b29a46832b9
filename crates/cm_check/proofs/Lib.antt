pub mod Found
pub mod Listed
pub mod Pieces
pub mod Resting
pub mod Told
