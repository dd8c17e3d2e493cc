pub mod BankFills
pub mod ReaderLemmas
pub mod BankPartLemmas
pub mod SeenBanks
pub mod DecodingObjects
pub mod MainCalls
pub mod KeptCounts
