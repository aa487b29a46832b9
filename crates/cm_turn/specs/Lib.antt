pub mod Lists
pub mod Rule
pub mod Seated
pub mod Turns
pub mod Views
