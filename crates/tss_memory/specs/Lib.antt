pub mod Ranges
pub mod Blocks
pub mod Seen
pub mod Segments
