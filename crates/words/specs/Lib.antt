pub mod Word
pub mod Majority
pub mod Rule
pub mod Counted
