pub mod Entered
pub mod Asked
pub mod Remaking
pub mod Run
pub mod Accepted
pub mod Calls
