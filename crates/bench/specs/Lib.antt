pub mod Dealing
pub mod Asked
