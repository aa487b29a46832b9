pub mod Installs
pub mod Pulls
