pub mod Ending
pub mod Filling
pub mod Firsts
pub mod Intake
pub mod Readings
