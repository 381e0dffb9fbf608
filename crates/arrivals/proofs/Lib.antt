pub mod Entering
pub mod Runs
pub mod Fixed
