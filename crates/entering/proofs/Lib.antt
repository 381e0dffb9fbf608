pub mod Holding
pub mod Leaf
pub mod Steps
mod Admitted
pub mod Along
pub mod Entering
pub mod OnlyLive
pub mod FromOpening
pub mod Demand3
pub mod Calls
pub mod Fixed
