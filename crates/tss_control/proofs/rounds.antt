-- The round of tasks since the last barrier: its tasks and operands by their names, the facts of a controlled state
-- that the other folders cite, and the entries after a decode and after the events that leave them. The lowest folder:
-- it stands on the crates below alone.
pub mod Facts
pub mod Rounds
pub mod EntriesFrames
pub mod ReadersLists
pub mod ReadersCounts
pub mod EntriesQuiet
pub mod Spawned
pub mod ReadersKept
pub mod ReadersStates
pub mod HoldersNext
pub mod RetirementFrames
pub mod EntryOf
pub mod EntriesNames
pub mod EntriesLeaving
pub mod EntriesDecodeOpen
pub mod EntriesDecodeUse
pub mod EntriesDecode
pub mod ReleaseFacts
pub mod MessageCounts
pub mod DecodeFacts
pub mod RoundTasks
pub mod FitObjects
