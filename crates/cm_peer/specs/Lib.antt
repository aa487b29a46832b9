pub mod Answers
pub mod Links
pub mod MemLinks
pub mod Walks
