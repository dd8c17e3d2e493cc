pub mod Entries
pub mod Holding
pub mod Bank
pub mod Decoding
