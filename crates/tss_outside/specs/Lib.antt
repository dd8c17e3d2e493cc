pub mod Outside
pub mod Moving
pub mod MemSink
pub mod MemFiles
pub mod Honest
pub mod Real
