pub mod Nibbles
pub mod Tables
pub mod NibblesLemmas
