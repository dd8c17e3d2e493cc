pub mod Members
pub mod Chains
pub mod Entries
pub mod Readers
pub mod Runners
pub mod Holders
pub mod Control
pub mod Controlled
