pub mod Sums
pub mod Ordered
pub mod Below
pub mod Mapped
pub mod Parts
