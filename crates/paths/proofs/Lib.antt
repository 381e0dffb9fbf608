pub mod Levels
pub mod Live
pub mod Relays
pub mod Members
pub mod Handed
pub mod Walk
pub mod Asking
pub mod Fixed
