pub mod Divisions
pub mod Highest
pub mod LongDivision
