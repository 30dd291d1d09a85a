pub mod Cards
pub mod Chains
pub mod Faults
pub mod Overwriting
pub mod Reading
pub mod RoundTrip
pub mod Writing
