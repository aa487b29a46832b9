pub mod Given
pub mod InOrder
pub mod Referred
pub mod RowSteps
pub mod Sound
pub mod Steps
pub mod Told
