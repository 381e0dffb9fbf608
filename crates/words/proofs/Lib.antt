pub mod Same
pub mod ByKind
pub mod Counts
pub mod Search
pub mod Reading
pub mod Lawful
pub mod Fixed
