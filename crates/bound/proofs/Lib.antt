pub mod Counting
pub mod Says
pub mod Fixed
