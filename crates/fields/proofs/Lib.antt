pub mod Roots
pub mod Tests
