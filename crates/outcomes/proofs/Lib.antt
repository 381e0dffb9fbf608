pub mod Asking
pub mod Runs
pub mod Flat
pub mod Fixed
