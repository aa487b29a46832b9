pub mod Answers
pub mod Asks
pub mod Clients
pub mod Eligible
pub mod Ranks
