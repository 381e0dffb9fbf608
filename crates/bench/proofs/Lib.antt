pub mod Dealing
pub mod Fixed
