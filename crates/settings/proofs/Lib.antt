pub mod Twenty
pub mod Good
pub mod Fixed
