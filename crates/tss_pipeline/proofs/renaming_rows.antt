pub mod RenamingBanks
pub mod RenamedState
pub mod RenamedPlacing
pub mod DecodingLemmas
pub mod IdleLemmas
pub mod FreshContents
pub mod GoneBanks
pub mod GoneLemmas
