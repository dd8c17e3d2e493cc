pub mod Events
pub mod Places
pub mod Reading
