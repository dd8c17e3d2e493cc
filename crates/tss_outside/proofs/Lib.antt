pub mod FileLemmas
pub mod RealLemmas
