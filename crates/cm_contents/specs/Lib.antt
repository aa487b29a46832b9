pub mod Contents
pub mod Seals
pub mod Wants
