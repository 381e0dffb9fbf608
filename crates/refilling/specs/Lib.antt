pub mod Refilled
pub mod RefillOrder
