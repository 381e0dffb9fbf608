pub mod Frame
pub mod Asked
