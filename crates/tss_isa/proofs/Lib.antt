pub mod SignLemmas
pub mod FieldLemmas
pub mod InverseLemmas
pub mod WordLemmas
