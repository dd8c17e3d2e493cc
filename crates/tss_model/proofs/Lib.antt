pub mod BudgetLemmas
mod KnownSteps
mod KnownRuns
