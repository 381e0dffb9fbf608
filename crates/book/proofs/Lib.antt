pub mod Asking
pub mod Halves
pub mod Fixed
