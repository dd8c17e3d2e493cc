-- A state that is not finished has an enabled event: without one no message but decodes is under way, and the oldest
-- task's decode finds room. Stands on no other folder.
pub mod Choice
pub mod Stuck
pub mod Versions
pub mod Phases
pub mod Oldest
pub mod Banks
pub mod Room
pub mod Finished
pub mod Drained
pub mod GoesOn
pub mod LetGo
pub mod Settled
pub mod Holders
pub mod TableBuffers
pub mod VersionBuffers
pub mod Buffers
pub mod Runs
pub mod CalmStates
