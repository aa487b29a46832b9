pub mod Fronts
pub mod Merging
pub mod Moves
pub mod Own
pub mod Places
pub mod Sums
