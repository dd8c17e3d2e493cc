mod RunLemmas
mod SetLemmas
