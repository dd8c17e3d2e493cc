-- The buffers that are set have the room of their objects, after each event. Stands on the values beside the folders.
pub mod Settle
pub mod Versions
pub mod Stores
pub mod Begun
pub mod Start
pub mod Events
