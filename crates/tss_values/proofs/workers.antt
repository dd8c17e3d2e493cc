-- What stands on each worker is what program order has of its task, after each event. Stands on `room`, `storages`, and
-- for the events of others on `stored` and `returns`.
pub mod Told
pub mod Hold
pub mod Apart
pub mod Runs
pub mod Unseen
pub mod Kept
pub mod Beside
pub mod Finds
pub mod Start
pub mod Events
