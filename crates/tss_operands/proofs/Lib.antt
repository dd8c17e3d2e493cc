mod PlacedLemmas
mod NamingLemmas
mod UnnamingLemmas
mod ListingLemmas
mod MergingLemmas
mod ReadingLemmas
mod FreshLemmas
mod SpawnLemmas
