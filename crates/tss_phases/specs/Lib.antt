pub mod Phase
pub mod Alone
pub mod Told
pub mod Settling
pub mod Leaving
pub mod Openers
pub mod Orderly
pub mod Forward
