pub mod Findings
pub mod Looks
