pub mod Drafts
pub mod Faults
pub mod Frames
pub mod Offers
pub mod Standing
