-- What stands in the storage of each version is what program order has there, after each event. Stands on `workers`,
-- `returns` and `storages`.
pub mod Frames
pub mod Quiet
pub mod Settled
pub mod Released
pub mod Taken
pub mod Copy
pub mod Main
pub mod Finish
pub mod Workers
pub mod Exec
pub mod Start
pub mod Open
