pub mod Queue
pub mod Seats
pub mod Spots
pub mod Working
pub mod Seen
pub mod Agreement
