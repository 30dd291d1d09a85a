pub mod Meaning
pub mod Numbers
pub mod Spelling
pub mod Words
