pub mod Slots
pub mod Walk
pub mod Asked
