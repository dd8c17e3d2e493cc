pub mod Home
pub mod Grounds
pub mod Left
pub mod Ran
pub mod Flats
pub mod Order
pub mod Codes
pub mod Restarts
