pub mod Books
pub mod Asked
pub mod Run
