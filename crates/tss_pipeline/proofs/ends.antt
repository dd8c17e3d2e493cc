pub mod OpeningLemmas
pub mod EmptyBanks
pub mod EndingLemmas
