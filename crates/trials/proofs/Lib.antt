pub mod Lines
pub mod Text
pub mod Asking
pub mod Long
pub mod Fixed
