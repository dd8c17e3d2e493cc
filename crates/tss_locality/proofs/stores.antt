-- What stores reach: a step of main or of a task writes only where its actor may store, so a stretch of main leaves the
-- objects that it has named, and a stretch of a worker all but the storages of its task's operands. Stands on the files
-- beside the folder that say what a change of one field leaves (Agreements, States).
pub mod Stores
pub mod StoreSteps
pub mod Stretches
pub mod MainStores
