pub mod RefillOrder
pub mod Refilled
pub mod Fixed
