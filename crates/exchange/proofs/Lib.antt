pub mod Statuses
pub mod Dealing
pub mod Asking
pub mod Fixed
