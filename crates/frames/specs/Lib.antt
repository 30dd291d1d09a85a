pub mod Common
pub mod Rows
