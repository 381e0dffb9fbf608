pub mod Longer
pub mod Ways
pub mod Votes
pub mod Gather
pub mod Handed
pub mod Asking
pub mod OnlyLive
pub mod Fixed
