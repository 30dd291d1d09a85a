pub mod Cases
pub mod Designs
