-- Closed scopes stay closed, whatever event happens: links lead to no name or object outside. Stands on the rows of the
-- stations and the versioning tables in the files beside the folder (Tasks, TakeEvent, VersionChanges, VersionEvents,
-- ObjectEvents).
pub mod ClosedMessages
pub mod ClosedStates
pub mod ClosedFlights
pub mod ClosedObjectEvents
pub mod ClosedTaskEvents
pub mod ApartScopes
pub mod FamilyScopes
