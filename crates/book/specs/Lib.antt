pub mod Book
pub mod Asked
