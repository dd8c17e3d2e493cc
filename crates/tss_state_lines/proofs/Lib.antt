pub mod Sequences
pub mod Ranges
mod WordLemmas
mod EventTexts
