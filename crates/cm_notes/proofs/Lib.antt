pub mod Fields
pub mod Folded
pub mod Pieces
pub mod Records
