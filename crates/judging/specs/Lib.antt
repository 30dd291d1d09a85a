pub mod Answers
pub mod Columns
pub mod Offers
pub mod Questions
