pub mod Decimals
pub mod Sunk
