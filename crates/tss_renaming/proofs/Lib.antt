pub mod ApartLemmas
pub mod HoldingLemmas
pub mod EntryLemmas
pub mod LineLemmas
pub mod OpeningLemmas
pub mod BankLemmas
pub mod DecodedLemmas
