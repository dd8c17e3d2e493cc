-- A measure that each event lowers, so that no run has more events than the first state's. Stands on no other folder.
pub mod Measure
pub mod Settle
pub mod Main
pub mod Exec
pub mod Flight
pub mod Tables
pub mod Stations
pub mod Copies
pub mod Events
pub mod Runs
