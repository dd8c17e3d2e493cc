pub mod Joined
pub mod Collected
pub mod Tables
pub mod Versions
