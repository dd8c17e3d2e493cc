-- Which storages share bytes: none but those of readers of one version. And memory that can not be written stays as it
-- was loaded. Stands on `workers` for what a task holds.
pub mod Shares
pub mod Homes
pub mod Beside
pub mod FixedOutputs
pub mod FixedBytes
