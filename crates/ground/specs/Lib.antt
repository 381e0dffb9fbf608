pub mod Refusal
pub mod Checks
pub mod Answer
pub mod Lists
pub mod Bytes
pub mod Fixes
