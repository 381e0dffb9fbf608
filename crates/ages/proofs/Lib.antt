pub mod Ages
pub mod Fixed
