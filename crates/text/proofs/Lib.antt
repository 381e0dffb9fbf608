pub mod Digits
pub mod Laws
pub mod Store
pub mod Sign
pub mod Fixed
