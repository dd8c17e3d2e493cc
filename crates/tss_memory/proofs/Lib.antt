pub mod RangeLemmas
mod PlaceLemmas
mod EntryLemmas
mod PartLemmas
mod WriteLemmas
mod ReadLemmas
mod LoadLemmas
mod LoadingLemmas
mod SegmentLemmas
mod KeptLemmas
