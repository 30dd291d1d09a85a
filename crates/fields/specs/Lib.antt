pub mod Elements
pub mod Faults
pub mod Quadratics
pub mod Questions
