pub mod Naming
pub mod Placed
pub mod Listing
pub mod Spawning
