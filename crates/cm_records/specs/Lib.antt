pub mod Calls
pub mod Kept
pub mod Laws
pub mod Opening
pub mod Placing
pub mod Seen
