pub mod Told
pub mod Good
pub mod Fixed
