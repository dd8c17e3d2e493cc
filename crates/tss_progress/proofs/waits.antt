-- A task that waits needs one that has not finished, where no message is under way. Stands on `progress`.
pub mod Rising
pub mod Silent
pub mod Operands
pub mod Law
pub mod Runs
