pub mod LineLemmas
pub mod LogLineLemmas
pub mod FileLogLemmas
