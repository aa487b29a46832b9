pub mod Keeps
pub mod KeptPlaces
pub mod Moments
pub mod Naming
pub mod Standing
pub mod Steps
