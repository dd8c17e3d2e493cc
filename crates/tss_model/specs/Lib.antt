pub mod Memory
pub mod Registers
pub mod Access
pub mod Core
pub mod Spawn
pub mod TaskRun
pub mod MainStep
pub mod InOrder
