pub mod VersionLookups
pub mod VersionTokens
pub mod VersionSteps
pub mod VersionEvents
pub mod VersionOpening
pub mod VersionRetiring
