-- What stands at home is what program order has there, after each event, but in objects that are in use. Stands on
-- `returns` and `workers`.
pub mod Events
pub mod Kept
pub mod Decode
pub mod Bytes
pub mod Beside
pub mod Copy
pub mod Workers
pub mod Gone
pub mod Main
