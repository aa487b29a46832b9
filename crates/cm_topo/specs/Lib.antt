pub mod Entries
pub mod Keys
pub mod Outcomes
pub mod Rows
pub mod Rules
pub mod SecondPass
pub mod Topologies
pub mod Troubles
