-- Who holds a buffer, after each event: one name each. The lowest folder: it stands on the crates below alone.
pub mod Settled
pub mod Kept
pub mod Quiet
pub mod Released
pub mod Opened
pub mod Decoded
pub mod Events
