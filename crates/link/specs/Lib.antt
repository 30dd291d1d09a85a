pub mod Blocks
pub mod Faults
pub mod Guarantees
pub mod Questions
