pub mod Exchange
pub mod Asked
pub mod Sending
