pub mod Accepting
pub mod Listing
