pub mod OverLemmas
pub mod SeedLemmas
pub mod LineLemmas
pub mod LogFileLemmas
pub mod WholeRuns
