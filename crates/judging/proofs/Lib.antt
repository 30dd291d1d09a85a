pub mod Sent
pub mod Ordered
pub mod Vectors
pub mod LeadingTest
pub mod Exactness
pub mod Copied
pub mod Behind
