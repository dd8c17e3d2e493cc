pub mod Keys
pub mod Changes
pub mod Entries
pub mod Sums
pub mod Places
pub mod OrderedLemmas
pub mod MappedLemmas
pub mod PartsLemmas
