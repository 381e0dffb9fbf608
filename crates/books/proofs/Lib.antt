pub mod Parts
pub mod Runs
pub mod Fixed
