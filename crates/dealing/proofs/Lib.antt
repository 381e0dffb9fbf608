pub mod DealOrder
pub mod Filling
pub mod Fixed
