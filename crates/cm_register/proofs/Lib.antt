pub mod GoesOn
pub mod New
pub mod Noted
pub mod Numbered
pub mod Same
pub mod Steps
pub mod Taken
pub mod TopologyRead
