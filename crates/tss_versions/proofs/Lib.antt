pub mod PlacesLemmas
pub mod RowLemmas
pub mod SettleLemmas
pub mod ConditionLemmas
pub mod UnlinkLemmas
pub mod CallLemmas
pub mod StepLemmas
pub mod NumberLemmas
pub mod EmptyLemmas
mod CheckLemmas
