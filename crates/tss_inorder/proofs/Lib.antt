pub mod OpenLemmas
pub mod RunLemmas
pub mod PieceLemmas
pub mod OrderLemmas
pub mod DidLemmas
pub mod RestartLemmas
