pub mod Settings
pub mod Asked
