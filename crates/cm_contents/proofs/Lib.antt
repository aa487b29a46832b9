pub mod Counted
pub mod Holding
pub mod Keeping
pub mod Least
pub mod Wanted
pub mod Wanting
