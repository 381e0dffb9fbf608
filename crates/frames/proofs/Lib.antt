pub mod Asking
pub mod Round
pub mod Fixed
