pub mod Tones
pub mod TonesLemmas
