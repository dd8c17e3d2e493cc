pub mod FrontLemmas
pub mod AckLemmas
pub mod StationLemmas
pub mod TakeLemmas
pub mod LineLemmas
pub mod DecodeLemmas
pub mod MainLemmas
