pub mod Bits
pub mod Failing
pub mod Loading
pub mod Pairs
pub mod Orders
pub mod Acceptance
pub mod Verdicts
