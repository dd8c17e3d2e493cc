pub mod DrainedStates
pub mod EventOrder
pub mod EnabledList
pub mod HeldTasks
pub mod WindowLemmas
pub mod TurnLemmas
pub mod MigrationLemmas
pub mod SettleCases
pub mod UnlinkedVersions
pub mod SentLemmas
pub mod FrontLemmas
mod KnownEvents
mod KnownRows
mod RacingProgram
mod FirstReader
mod IdleRace
