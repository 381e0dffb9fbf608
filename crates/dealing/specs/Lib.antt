pub mod Dealt
pub mod Asked
pub mod DealOrder
