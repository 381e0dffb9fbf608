pub mod Worked
pub mod Refusing
