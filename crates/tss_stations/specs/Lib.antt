pub mod Views
pub mod Slots
pub mod Reading
pub mod Passing
