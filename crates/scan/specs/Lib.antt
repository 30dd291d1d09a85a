pub mod Columns
pub mod Walked
pub mod Walks
