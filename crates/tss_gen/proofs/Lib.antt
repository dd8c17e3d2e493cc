pub mod ItemLists
pub mod Chain
pub mod Lengths
pub mod Faultless
pub mod Bytes
