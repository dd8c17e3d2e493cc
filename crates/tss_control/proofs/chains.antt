-- The versions of an object stand in a chain, after each event: with their neighbours, the storages that they take
-- over, and the opens and uses on their way. Stands on `rounds`.
pub mod Alike
pub mod Frames
pub mod GivingWay
pub mod Settled
pub mod Released
pub mod Use
pub mod Retired
pub mod Registered
pub mod Open
pub mod Decode
pub mod Decoded
pub mod Bridged
pub mod Departed
pub mod NewVersion
pub mod Opened
pub mod Numbers
