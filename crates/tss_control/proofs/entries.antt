-- After each event entries know the latest version and its readers, and a version that asks may retire but for a cause.
-- Stands on `rounds` and `chains`.
pub mod Decoded
pub mod QuietEvents
pub mod RetirementDecode
pub mod OfVersions
pub mod Granted
pub mod Idle
pub mod Copy
pub mod Gone
pub mod Retire
pub mod RetireEvent
pub mod Written
pub mod Settling
pub mod SettleCases
pub mod Settled
pub mod RetirementWritten
pub mod Nack
pub mod RetirementOpen
pub mod Use
pub mod Release
pub mod Open
pub mod Registered
