-- What is copied home, or has come there, is what the last version had, after each event. Stands on `workers` for what
-- these leave.
pub mod Returns
pub mod Copy
pub mod Main
pub mod Events
pub mod Workers
