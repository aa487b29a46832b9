mod Lines
pub mod Meets
mod NumberLemmas
mod Scan
mod Sources
pub mod Statuses
pub mod Unknown
