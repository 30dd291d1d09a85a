pub mod Bars
pub mod Each
pub mod Following
pub mod Pieces
